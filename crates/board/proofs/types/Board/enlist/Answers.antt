use Rattle.std.proofs.Common.{◌≡◌, ℕ, ◌<◌, length, arith}
use Rattle.rules.proofs.Views.{below_written}
use Rattle.flood.specs.View.{wired, cells_view}
use Rattle.board.specs.declared.types.Node.{Node}
use Rattle.board.specs.View.{node_view, nodes_view, rooted_node}
use Rattle.board.proofs.Boards.{board_table}
use Rattle.board.proofs.Records.{no_node}
use Rattle.board.proofs.types.Board.enlist.Goals as goal

pub loop-node-preserved : goal.loop-node-preserved
loop-node-preserved c =
    let b = c.args.self.now in
    let nodes = c.loop-node.self.nodes in
    let l : c.loop-node.node < length nodes = omega (arith, c.loop-node.self.nodes_long, b.count_few) in (
      c.loop-node.invariant.0,
      below_written no_node nodes c.loop-node.node _
          (λ (k : ℕ) (x : Node). node_view b.count x ≡ rooted_node (wired b.count c.args.ends.now.at) (nodes_view b) (cells_view b.count c.args.cells.now) c.args.root k) l c.loop-node.invariant.1 c.enlisted_record.ensures,
    )

pub returns : goal.returns
returns c =
    record {
      nodes = board_table c.args.self.now c.loop-node.self _ c.loop-node.invariant.0 (λ k h. c.loop-node.invariant.1 k (omega arith));
      count = c.loop-node.invariant.0;
    }
