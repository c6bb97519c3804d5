use Rattle.std.proofs.Common.{List, ap}
use Rattle.board.specs.declared.types.Node.{Node}
use Rattle.board.specs.View.{nodes_at}
use Rattle.traffic.specs.View.{packets_view}
use Rattle.wall.specs.View.{state_of}
use Rattle.wall.proofs.inner.Core.fit.Goals as goal

pub returns : goal.returns
unfolding state_of
returns c =
    let core = c.args.self.now in
    record {
      fitted = c.fit.ensures.count;
      state = λ layout. ap (λ (xs : List Node). record { nodes = nodes_at layout.count xs; owner = core.owner; last = core.flight.last; packets = packets_view core.flight }) c.fit.ensures.nodes;
    }
