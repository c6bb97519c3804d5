use Rattle.wall.specs.View.{state_of}
use Rattle.wall.proofs.Calls.{fits, hand_call}
use Rattle.wall.proofs.inner.Core.hand.Goals as goal

pub returns : goal.returns
unfolding state_of
returns c layout sound same =
    let fitted = fits layout c.fit.new.self c.args.count sound same c.fit.ensures.fitted in
    hand_call layout c.args.self.now c.fit.new.self c.hand.new.self fitted (c.fit.ensures.state layout) c.hand.ensures.count
    c.args.node c.hand.result c.hand.ensures.rule
