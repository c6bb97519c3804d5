use Rattle.std.proofs.Common.{sym, subst}
use Rattle.rules.specs.Promise.{Promised}
use Rattle.rules.proofs.Promised.{promised}
use Rattle.wall.specs.View.{state_of}
use Rattle.wall.proofs.Calls.{powered}
use Rattle.wall.proofs.inner.Core.power_up.Goals as goal

pub returns : goal.returns
unfolding state_of
returns g c =
    let layout = g.W.Wiring.layout c.args.wiring.now in
    let sound = g.met.W.Wiring.sound c.args.wiring.now in
    let n = c.node_count.ensures in
    let up = c.power_up-board.ensures (rw n sound.some_nodes) (rw n sound.few_nodes) in
    let is = powered layout c.power_up-board.result c.new-flight.result c.of-ends.result.at c.node_count.result c.of-ends.ensures n up.0 up.1
    c.new-flight.ensures.last c.new-flight.ensures.packets in
    record { state = is; promise = subst (Promised layout) (sym is) (promised layout sound) }
