use Rattle.std.proofs.Common.{◌≡◌, ℕ, ◌<◌, ◌≤◌, length, get_or}
use Rattle.std.specs.Fn.{FnReturnsAt}
use Rattle.board.specs.declared.types.Node.{Node}
use Rattle.board.proofs.types.Board.each.Given as goal

abbrev pub invariant-loop-node : goal.invariant-loop-node
invariant-loop-node g l =
    (length l.all ≡ 64)
    × ((k : ℕ) → k < l.node → (d : Node) → FnReturnsAt g.F.Fn l.question (get_or l.self.nodes k d) (get_or l.all k l.fn.none))
    × ((k : ℕ) → l.node ≤ k → get_or l.all k l.fn.none ≡ l.fn.none)
