use Rattle.std.proofs.Common.{sym}
use Rattle.rules.specs.Runs.{post}
use Rattle.traffic.specs.Posting.{post_reply}
use Rattle.wall.specs.View.{state_of}
use Rattle.wall.proofs.Calls.{fits, moved_over}
use Rattle.wall.proofs.inner.Core.post.Goals as goal

pub returns : goal.returns
unfolding state_of
returns c layout sound same =
    let fitted = fits layout c.fit.new.self c.args.count sound same c.fit.ensures.fitted in
    moved_over layout c.args.self.now c.fit.new.self c.post.new.self fitted (c.fit.ensures.state layout)
    (post c.args.source c.args.destination c.args.word) (post_reply c.post.result) (c.post.ensures.does layout c.fit.new.self.owner (sym fitted))
