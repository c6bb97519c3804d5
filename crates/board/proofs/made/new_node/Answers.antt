use Rattle.std.proofs.Common.{refl}
use Rattle.rules.specs.State.{fresh}
use Rattle.board.proofs.Slots.{empty_row}
use Rattle.board.proofs.made.new_node.Goals as goal

pub returns : goal.returns
unfolding fresh
returns c count h = rw (c.cables.ensures, empty_row count h) refl
