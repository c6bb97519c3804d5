use Rattle.wall.specs.View.{state_of}
use Rattle.wall.proofs.Calls.{fits, cut_call}
use Rattle.wall.proofs.inner.Core.cut.Goals as goal

pub returns : goal.returns
unfolding state_of
returns c layout sound same spells =
    let fitted = fits layout c.fit.new.self c.args.count sound same c.fit.ensures.fitted in
    cut_call layout c.args.self.now c.fit.new.self c.cut.new.self fitted (c.fit.ensures.state layout) c.cut.ensures.count
    _ spells c.args.node c.args.port c.cut.result c.cut.ensures.rule
