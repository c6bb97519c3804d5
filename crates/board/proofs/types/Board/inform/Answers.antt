use Rattle.std.proofs.Common.{◌≡◌, ℕ, ◌<◌, length, get_or, sym, ap, ◌∙◌, ap₂, arith}
use Rattle.rules.specs.State as rules
use Rattle.rules.specs.Flood as flood
use Rattle.rules.specs.Slot.{informed, heard}
use Rattle.rules.proofs.Views.{below_written, rest_written}
use Rattle.flood.specs.declared.types.Cell.TheVariants.{Waiting}
use Rattle.flood.specs.View.{cell_view, cells_view}
use Rattle.flood.proofs.Arrays.{cell_read}
use Rattle.board.specs.declared.types.Node.{Node}
use Rattle.board.specs.View.{node_view, nodes_view}
use Rattle.board.proofs.Boards.{same_at, board_table}
use Rattle.board.proofs.Records.{no_node, node_read}
use Rattle.board.proofs.types.Board.inform.Goals as goal

pub loop-node-preserved : goal.loop-node-preserved
loop-node-preserved c =
    let count = c.args.self.now.count in
    let nodes = c.loop-node.self.nodes in
    let l : c.loop-node.node < length nodes = omega (arith, c.loop-node.self.nodes_long, c.args.self.now.count_few) in
    let same = c.loop-node.invariant.2 c.loop-node.node (omega arith) in (
      c.loop-node.invariant.0,
      below_written no_node nodes c.loop-node.node _ (λ (k : ℕ) (x : Node). node_view count x ≡ informed (node_view count (get_or c.args.self.now.nodes k no_node)) c.args.owner (cell_view (get_or c.args.cells.now k Waiting))) l c.loop-node.invariant.1
          (c.inform_record.ensures count c.requires ∙ ap (λ (x : Node). informed (node_view count x) c.args.owner (cell_view (get_or c.args.cells.now c.loop-node.node Waiting))) same),
      rest_written no_node nodes c.loop-node.node _ (λ (k : ℕ) (x : Node). x ≡ get_or c.args.self.now.nodes k no_node) c.loop-node.invariant.2,
    )

pub returns : goal.returns
unfolding heard
returns c =
    let b = c.args.self.now in
    record {
      board = record {
        nodes =
            board_table b c.loop-node.self (λ k. informed (rules.node_of (nodes_view b) k) c.args.owner (flood.cell_of (cells_view b.count c.args.cells.now) k)) c.loop-node.invariant.0
            (λ k h. c.loop-node.invariant.1 k (omega arith)
            ∙ ap₂ (λ (x : rules.Node) (y : flood.Cell). informed x c.args.owner y) (sym (node_read b k h)) (sym (cell_read b.count c.args.cells.now k h)));
        count = c.loop-node.invariant.0;
      };
      past = λ k d h. same_at c.loop-node.self.nodes b.nodes k d no_node (b.nodes_long ∙ sym c.loop-node.self.nodes_long) (c.loop-node.invariant.2 k (omega arith));
    }
