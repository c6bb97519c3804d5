use Rattle.play.proofs.Performed.{cut_performed, hand_performed, post_performed}
use Rattle.play.proofs.calls.perform.Goals as goal

pub returns-in-Cut : goal.returns-in-Cut
returns-in-Cut g c = record {
  performs =
      cut_performed g.C.Chooser.picks _ (g.met.W.Wiring.sound c.args.wall.now.wiring).few_nodes c.args.call c.done.result _ c.done.ensures _ _ _ _ _ c.cut.ensures.parts.1
      c.in-Cut.node c.in-Cut.port _ _ c.in-Cut.is c.as_byte.ensures c.as_byte-in-Cut.ensures c.cut.ensures.does;
  wiring = c.cut.ensures.parts.0;
}

pub returns-in-Hand : goal.returns-in-Hand
returns-in-Hand g c = record {
  performs =
      hand_performed g.C.Chooser.picks _ (g.met.W.Wiring.sound c.args.wall.now.wiring).few_nodes c.args.call c.done-in-Hand.result _ c.done-in-Hand.ensures _ _ _ _ _ c.hand.ensures.parts.1
      c.in-Hand.node _ c.in-Hand.is c.as_byte-in-Hand.ensures c.hand.ensures.does;
  wiring = c.hand.ensures.parts.0;
}

pub returns-in-Post : goal.returns-in-Post
returns-in-Post g c = record {
  performs =
      post_performed g.C.Chooser.picks _ (g.met.W.Wiring.sound c.args.wall.now.wiring).few_nodes c.args.call c.numbered.result _ c.numbered.ensures _ _ _ _ _ c.post.ensures.parts.1
      c.in-Post.source c.in-Post.destination c.in-Post.word _ _ c.in-Post.is c.as_byte-in-Post.ensures c.as_byte-in-Post-2.ensures c.post.ensures.does;
  wiring = c.post.ensures.parts.0;
}
