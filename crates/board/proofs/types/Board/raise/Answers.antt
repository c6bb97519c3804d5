use Rattle.std.proofs.Common.{refl}
use Rattle.rules.specs.Calls.{raised}
use Rattle.board.proofs.Records.{node_written}
use Rattle.board.proofs.types.Board.raise.Goals as goal

pub returns : goal.returns
unfolding raised
returns c = record {
  nodes = node_written raised c.args.self.now _ c.args.node _ c.requires refl refl (rw c.hand_up.ensures refl);
  count = refl;
}
