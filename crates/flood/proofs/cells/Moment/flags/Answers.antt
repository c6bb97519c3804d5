use Rattle.std.proofs.Common.{◌≡◌, ℕ, Bool, false, rules}
use Rattle.rules.specs.Flood.{gets}
use Rattle.flood.specs.View.{wired, marks_view, cells_view}
use Rattle.flood.proofs.Arrays.{four_are}
use Rattle.flood.proofs.Made.{made_same}
use Rattle.flood.proofs.cells.Moment.flags.Goals as goal

pub returns : goal.returns
returns c =
    let m = c.args.self.now in
    let w = m.wave.now in
    let flag = gets (wired w.count w.ends.at) (marks_view w.marks) w.owner m.cycle (cells_view w.count m.cells.now) c.args.node in
    let each = made_same _ (λ (k : ℕ) (x : Bool). x ≡ flag k) _ (λ i y q told. (search rules, search rules)) c.from_fn.result 4 false c.from_fn.ensures.items in
    four_are flag c.from_fn.result c.from_fn.ensures.items.long each
