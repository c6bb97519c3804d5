use Rattle.std.proofs.Common.{◌≡◌, ℕ, ◌<◌, length, get_or, sym, ap, ◌∙◌, arith}
use Rattle.rules.specs.State as rules
use Rattle.rules.specs.Slot.{tick}
use Rattle.rules.proofs.Views.{below_written, rest_written}
use Rattle.board.specs.declared.types.Node.{Node}
use Rattle.board.specs.View.{node_view, nodes_view}
use Rattle.board.proofs.Boards.{same_at, board_table, map_table, view_length}
use Rattle.board.proofs.Records.{no_node, node_read}
use Rattle.board.proofs.types.Board.tick.Goals as goal

pub loop-node-preserved : goal.loop-node-preserved
loop-node-preserved c =
    let count = c.args.self.now.count in
    let nodes = c.loop-node.self.nodes in
    let l : c.loop-node.node < length nodes = omega (arith, c.loop-node.self.nodes_long, c.args.self.now.count_few) in
    let same = c.loop-node.invariant.2 c.loop-node.node (omega arith) in (
      c.loop-node.invariant.0,
      below_written no_node nodes c.loop-node.node _ (λ (k : ℕ) (x : Node). node_view count x ≡ tick (node_view count (get_or c.args.self.now.nodes k no_node))) l c.loop-node.invariant.1
          (c.tick_record.ensures count ∙ ap (λ (x : Node). tick (node_view count x)) same),
      rest_written no_node nodes c.loop-node.node _ (λ (k : ℕ) (x : Node). x ≡ get_or c.args.self.now.nodes k no_node) c.loop-node.invariant.2,
    )

pub returns : goal.returns
returns c =
    let b = c.args.self.now in
    record {
      board = record {
        nodes =
            board_table b c.loop-node.self (λ k. tick (rules.node_of (nodes_view b) k)) c.loop-node.invariant.0
            (λ k h. c.loop-node.invariant.1 k (omega arith) ∙ ap tick (sym (node_read b k h)))
            ∙ sym (map_table tick (nodes_view b) b.count rules.absent (view_length b));
        count = c.loop-node.invariant.0;
      };
      past = λ k d h. same_at c.loop-node.self.nodes b.nodes k d no_node (b.nodes_long ∙ sym c.loop-node.self.nodes_long) (c.loop-node.invariant.2 k (omega arith));
    }
