use Rattle.std.proofs.Common.{◌≡◌, ℕ, ◌<◌, ◌≤◌, get_or}
use Rattle.rules.specs.Slot.{informed}
use Rattle.flood.specs.declared.types.Cell.TheVariants.{Waiting}
use Rattle.flood.specs.View.{cell_view}
use Rattle.board.specs.View.{node_view}
use Rattle.board.proofs.Records.{no_node}
use Rattle.board.proofs.types.Board.inform.Given as goal

abbrev pub invariant-loop-node : goal.invariant-loop-node
invariant-loop-node l =
    (l.self.count ≡ l.initial.self.count)
    × ((k : ℕ) → k < l.node → node_view l.initial.self.count (get_or l.self.nodes k no_node) ≡ informed (node_view l.initial.self.count (get_or l.initial.self.nodes k no_node)) l.owner (cell_view (get_or l.cells k Waiting)))
    × ((k : ℕ) → l.node ≤ k → get_or l.self.nodes k no_node ≡ get_or l.initial.self.nodes k no_node)
