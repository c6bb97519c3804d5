use Rattle.std.proofs.Common.{◌≡◌, ℕ, ◌<◌, get_or}
use Rattle.flood.specs.View.{wired, cells_view}
use Rattle.board.specs.View.{node_view, nodes_view, rooted_node}
use Rattle.board.proofs.Records.{no_node}
use Rattle.board.proofs.types.Board.enlist.Given as goal

abbrev pub invariant-loop-node : goal.invariant-loop-node
invariant-loop-node l =
    (l.self.count ≡ l.initial.self.count)
    × ((k : ℕ) → k < l.node → node_view l.initial.self.count (get_or l.self.nodes k no_node) ≡ rooted_node (wired l.initial.self.count l.ends.at) (nodes_view l.initial.self) (cells_view l.initial.self.count l.cells) l.root k)
