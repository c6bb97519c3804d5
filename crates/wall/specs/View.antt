-- What the plain part of a wall stands for: the state of the rules.
use Rattle.std.specs.Prelude.{Ok, Err, Result}
use Rattle.wiring.specs.Layout.{Layout}
use Rattle.rules.specs.declared.Refusal.{Refusal}
use Rattle.rules.specs.State.{State}
use Rattle.rules.specs.Runs.{Reply, refused, done}
use Rattle.board.specs.View.{nodes_at}
use Rattle.traffic.specs.View.{packets_view, state}
use Rattle.wall.specs.declared.inner.Core.{Core}

-- The state by the board's own node count.
abbrev pub core_state : Core → State
core_state core = state core.board core.owner core.flight

-- The state of a wall over a wiring with this layout.
unfoldable pub state_of : Layout → Core → State
state_of layout core = record {
  nodes = nodes_at layout.count core.board.nodes;
  owner = core.owner;
  last = (core_state core).last;
  packets = packets_view core.flight;
}

-- The answer of a cut or a hand as a reply.
abbrev pub done_reply : Result (Unit {0}) Refusal → Reply
done_reply (Ok answer) = done
done_reply (Err reason) = refused reason
