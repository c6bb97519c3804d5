use Rattle.std.proofs.Common.{◌≡◌, ℕ, ◌<◌, ◌≤◌, false, cond, ◌||◌, eqb, length, get_or, refl, arith, rules}
use Rattle.rules.specs.Flood.{waiting, deaf}
use Rattle.rules.proofs.Views.{view_table}
use Rattle.flood.specs.declared.types.Cell.{Cell}
use Rattle.flood.specs.declared.types.Cell.TheVariants.{Waiting}
use Rattle.flood.specs.View.{cell_view}
use Rattle.flood.proofs.Made.{made_same}
use Rattle.flood.proofs.cycle.start.Goals as goal

pub returns-clause-cells : goal.returns-clause-cells
returns-clause-cells c =
    let each = made_same _ (λ (k : ℕ) (x : Cell). k < c.args.count → cell_view x ≡ cond (eqb k c.args.owner || get_or c.args.deaf.now k false) deaf waiting) _ (λ i y q told. (search rules, search rules)) c.from_fn.result 64 Waiting c.from_fn.ensures.items in
    let long : c.args.count ≤ length c.from_fn.result = omega (arith, c.from_fn.ensures.items.long) in
    view_table cell_view Waiting waiting refl c.from_fn.result c.args.count _ long (λ k h. each k (omega arith) h)
