use Rattle.std.proofs.Common.{refl}
use Rattle.std.proofs.lemmas.Bool.{le-leb, lt-leb}
use Rattle.rules.specs.Calls.{hand_refused, after_hand, with_nodes}
use Rattle.board.proofs.types.Board.hand.Goals as goal

pub returns-then-node-self : goal.returns-then-node-self
unfolding hand_refused
returns-then-node-self c = record { rule = rw (le-leb _ _ c.if-node-self.true) (refl, refl); count = refl }

pub returns : goal.returns
unfolding hand_refused after_hand with_nodes
returns c = record { rule = rw (lt-leb _ _ c.if-node-self.false) c.raise.ensures.nodes; count = c.raise.ensures.count }
