use Rattle.std.proofs.Common.{◌≡◌, ℕ, ◌<◌, ◌≤◌, get_or}
use Rattle.rules.specs.Slot.{tick}
use Rattle.board.specs.View.{node_view}
use Rattle.board.proofs.Records.{no_node}
use Rattle.board.proofs.types.Board.tick.Given as goal

abbrev pub invariant-loop-node : goal.invariant-loop-node
invariant-loop-node l =
    (l.self.count ≡ l.initial.self.count)
    × ((k : ℕ) → k < l.node → node_view l.initial.self.count (get_or l.self.nodes k no_node) ≡ tick (node_view l.initial.self.count (get_or l.initial.self.nodes k no_node)))
    × ((k : ℕ) → l.node ≤ k → get_or l.self.nodes k no_node ≡ get_or l.initial.self.nodes k no_node)
