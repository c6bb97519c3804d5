use Rattle.wall.specs.View.{state_of}
use Rattle.wall.proofs.Calls.{fits, step_did}
use Rattle.wall.proofs.inner.Core.step.Goals as goal

pub returns : goal.returns
unfolding state_of
returns g c =
    let layout = g.W.Wiring.layout c.args.wiring.now in
    let fitted = fits layout c.fit.new.self c.node_count.result (g.met.W.Wiring.sound c.args.wiring.now) c.node_count.ensures c.fit.ensures.fitted in
    step_did layout c.args.self.now c.fit.new.self c.step.new.self fitted (c.fit.ensures.state layout) g.C.Chooser.picks _ _ _ _ c.step.result c.step.ensures
