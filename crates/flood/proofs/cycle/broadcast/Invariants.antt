use Rattle.std.proofs.Common.{◌≡◌, ◌-◌, ◌≤◌, false, length, get_or}
use Rattle.rules.specs.Flood.{spread, spread_from}
use Rattle.flood.specs.View.{wired, marks_view, cells_view}
use Rattle.flood.proofs.cycle.broadcast.Given as goal

abbrev pub invariant-cycle : goal.invariant-cycle
invariant-cycle l =
    (length l.cells ≡ 64)
    × (l.cycle ≤ l.wave.count)
    × (spread (wired l.wave.count l.wave.ends.at) (marks_view l.wave.marks) l.wave.owner (λ n. get_or l.deaf n false)
    ≡ spread_from (wired l.wave.count l.wave.ends.at) (marks_view l.wave.marks) l.wave.owner (l.wave.count - l.cycle) l.cycle (cells_view l.wave.count l.cells))

abbrev pub decreases-cycle : goal.decreases-cycle
decreases-cycle l = l.wave.count - l.cycle
