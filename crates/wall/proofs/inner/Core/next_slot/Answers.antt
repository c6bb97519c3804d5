use Rattle.wall.specs.View.{state_of}
use Rattle.wall.proofs.Calls.{fits, slot_did}
use Rattle.wall.proofs.inner.Core.next_slot.Goals as goal

pub returns : goal.returns
unfolding state_of
returns c layout sound same spells =
    let mid = c.fit.new.self in
    let after = c.slot.new.self in
    slot_did layout c.args.self.now mid after.board after.owner after.flight c.args.ends.now.at c.slot.result
    (fits layout mid c.args.count sound same c.fit.ensures.fitted) (c.fit.ensures.state layout) spells
    c.slot.ensures.answer c.slot.ensures.after c.slot.ensures.count
