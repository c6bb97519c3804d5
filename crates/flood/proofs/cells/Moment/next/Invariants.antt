use Rattle.std.proofs.Common.{◌≡◌, ℕ, ◌+◌, ◌<◌, length, get_or}
use Rattle.rules.specs.Flood.{next_cell, reached}
use Rattle.flood.specs.declared.types.Cell.TheVariants.{Waiting}
use Rattle.flood.specs.View.{wired, marks_view, cell_view, cells_view}
use Rattle.flood.proofs.cells.Moment.next.Given as goal

abbrev pub invariant-loop-node : goal.invariant-loop-node
invariant-loop-node l =
    (length l.next ≡ 64)
    × ((k : ℕ) → k < l.node → cell_view (get_or l.next k Waiting) ≡ next_cell (wired l.self.wave.now.count l.self.wave.now.ends.at) (marks_view l.self.wave.now.marks) l.self.wave.now.owner l.self.cycle (cells_view l.self.wave.now.count l.self.cells.now) k)
    × (l.reached ≡ reached (l.self.cycle + 1) (cells_view l.node l.next))
