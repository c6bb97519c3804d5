use Rattle.std.proofs.Common.{sym, refl, ◌∙◌, subst, arith}
use Rattle.std.proofs.lemmas.List.{length-set}
use Rattle.rules.specs.Slot.{sent_home}
use Rattle.board.specs.View.{nodes_view}
use Rattle.traffic.specs.Inside.{Inside, nowhere}
use Rattle.traffic.proofs.Homes.{home_inside, front_none, front_more, front_all}
use Rattle.traffic.proofs.Standing.{inside_set}
use Rattle.traffic.proofs.types.Flight.send_home.Goals as goal

pub loop-i-init : goal.loop-i-init
loop-i-init c = (front_none (sent_home (nodes_view c.args.board.now)) c.args.self.now.places, refl, refl)

pub invariant_of-self : goal.invariant_of-self
invariant_of-self c = record {
  few = c.loop-i.self.few;
  long = length-set c.loop-i.self.places c.loop-i.i c.sent_home.result ∙ c.loop-i.self.long;
  inside =
      inside_set c.loop-i.self.places c.loop-i.i c.sent_home.result c.loop-i.self.inside
      (subst Inside (sym c.sent_home.ensures) (home_inside (nodes_view c.args.board.now) _ (c.loop-i.self.inside c.loop-i.i)));
}

pub loop-i-preserved : goal.loop-i-preserved
loop-i-preserved c = (
  front_more (sent_home (nodes_view c.args.board.now)) c.args.self.now.places c.loop-i.self.places c.loop-i.i nowhere
      c.sent_home.result (omega arith) c.loop-i.invariant.0 c.sent_home.ensures,
  c.loop-i.invariant.1,
  c.loop-i.invariant.2,
)

pub returns : goal.returns
returns c = record {
  packets =
      front_all (sent_home (nodes_view c.args.board.now)) c.args.self.now.places c.loop-i.self.places
      c.loop-i.i c.args.self.now.count c.loop-i.self.count (omega arith) c.loop-i.invariant.1 c.loop-i.invariant.0;
  last = c.loop-i.invariant.2;
}
