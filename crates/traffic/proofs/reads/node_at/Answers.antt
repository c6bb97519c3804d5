use Rattle.traffic.proofs.BoardView.{node_found}
use Rattle.traffic.proofs.reads.node_at.Goals as goal

pub returns : goal.returns
returns c = node_found c.args.board.now c.args.node c.get.result c.get.ensures.lookup.0 c.get.ensures.lookup.1
