use Rattle.std.proofs.Common.{◌≡◌, ℕ, ◌+◌, ◌<◌, ◌≤◌, List, length, Option, sym, refl, ap, ◌∙◌, subst, is_some, arith, length-set, rules}
use Rattle.std.specs.Prelude.{IfSome}
use Rattle.flood.specs.declared.types.Cell.{Cell}
use Rattle.rules.specs.Flood.{cycle, reached, waiting}
use Rattle.rules.proofs.Views.{view_table, fill_more}
use Rattle.flood.specs.declared.types.Cell.TheVariants.{Waiting}
use Rattle.flood.specs.View.{wired, marks_view, cell_view, cells_view}
use Rattle.flood.proofs.Arrays.{reached_more, some_if, holds_if}
use Rattle.flood.proofs.cells.Moment.next.Goals as goal

pub loop-node-init : goal.loop-node-init
unfolding reached
loop-node-init c = (refl, (λ k h. absurd (omega arith)), refl)

pub loop-node-preserved : goal.loop-node-preserved
loop-node-preserved c =
    let l : c.loop-node.node < length c.loop-node.next = omega (arith, c.loop-node.invariant.0, c.args.self.now.wave.now.count_few) in (
      length-set c.loop-node.next c.loop-node.node c.heard-cell.result ∙ c.loop-node.invariant.0,
      fill_more cell_view Waiting c.loop-node.next c.loop-node.node c.heard-cell.result _ l c.loop-node.invariant.1 c.heard-cell.ensures,
      reached_more _ c.loop-node.next c.loop-node.node c.heard-cell.result _ _ l c.loop-node.invariant.2 (search rules),
    )

pub returns-clause-cells : goal.returns-clause-cells
unfolding cycle
returns-clause-cells c =
    let count = c.args.self.now.wave.now.count in
    let after = cycle (wired count c.args.self.now.wave.now.ends.at) (marks_view c.args.self.now.wave.now.marks) c.args.self.now.wave.now.owner c.args.self.now.cycle (cells_view count c.args.self.now.cells.now) in
    let long : count ≤ length c.loop-node.next = omega (arith, c.loop-node.invariant.0, c.args.self.now.wave.now.count_few) in
    let cells = view_table cell_view Waiting waiting refl c.loop-node.next count _ long (λ k h. c.loop-node.invariant.1 k (omega arith)) in
    subst (λ (o : Option (List Cell)). IfSome o (λ next. cells_view count next ≡ after)) (sym c.then_some.ensures)
    (holds_if (λ (next : List Cell). cells_view count next ≡ after) c.loop-node.reached c.loop-node.next cells)

pub returns-clause-reached : goal.returns-clause-reached
unfolding cycle
returns-clause-reached c =
    let count = c.args.self.now.wave.now.count in
    let end : c.loop-node.node ≡ c.args.self.now.wave.now.count = omega (arith, c.loop-node.auto.node-end) in
    let long : c.args.self.now.wave.now.count ≤ length c.loop-node.next = omega (arith, c.loop-node.invariant.0, c.args.self.now.wave.now.count_few) in
    ap is_some c.then_some.ensures ∙ some_if c.loop-node.reached c.loop-node.next ∙ c.loop-node.invariant.2 ∙ ap (λ (k : ℕ). reached (c.args.self.now.cycle + 1) (cells_view k c.loop-node.next)) end
    ∙ ap (reached (c.args.self.now.cycle + 1)) (view_table cell_view Waiting waiting refl c.loop-node.next count _ long (λ k h. c.loop-node.invariant.1 k (omega arith)))
