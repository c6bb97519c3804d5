use Rattle.std.proofs.Common.{sym, ap, ◌∙◌, inl, inr}
use Rattle.flood.specs.View.{cell_view, cells_view}
use Rattle.flood.proofs.Arrays.{cell_read, cell_past}
use Rattle.board.proofs.Marking.{order_waiting, order_deaf, order_wrote}
use Rattle.board.proofs.rows.order_of.Goals as goal

pub returns-then-node-count : goal.returns-then-node-count
returns-then-node-count c = sym (order_waiting c.args.count (cells_view c.args.count c.args.cells.now) c.args.node (cell_past c.args.count c.args.cells.now c.args.node c.if-node-count.true))

pub returns-in-Waiting : goal.returns-in-Waiting
returns-in-Waiting c =
    let read = cell_read c.args.count c.args.cells.now c.args.node c.if-node-count.false in
    sym (elim c.in-Waiting.is [
      | inl is ↦ order_waiting c.args.count (cells_view c.args.count c.args.cells.now) c.args.node (read ∙ ap cell_view is)
      | inr is ↦ order_deaf c.args.count (cells_view c.args.count c.args.cells.now) c.args.node (read ∙ ap cell_view is)
    ])

pub returns-in-Wrote : goal.returns-in-Wrote
returns-in-Wrote c = sym (order_wrote c.args.count (cells_view c.args.count c.args.cells.now) c.args.node _ _ (cell_read c.args.count c.args.cells.now c.args.node c.if-node-count.false ∙ ap cell_view c.in-Wrote.is))
