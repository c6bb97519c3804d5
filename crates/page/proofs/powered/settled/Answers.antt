use Rattle.std.proofs.Common.{sym, refl, ◌∙◌, arith}
use Rattle.page.proofs.Slotting.{no_slots, wall_more, wall_settled}
use Rattle.page.proofs.powered.settled.Goals as goal

pub loop-init : goal.loop-init
loop-init g c = (refl, c.power_up-wall.ensures.state ∙ sym (no_slots _ _))

pub loop-preserved : goal.loop-preserved
loop-preserved g c = (
  c.slot.ensures.parts.0 ∙ c.loop.invariant.0,
  wall_more g.W.Wiring.layout c.power_up-wall.result.wiring c.loop.counter c.loop.wall.wiring c.slot.new.self.wiring c.loop.wall.core c.slot.new.self.core
      c.loop.invariant.0 c.slot.ensures.parts.0 c.loop.invariant.1 c.slot.ensures.does,
)

pub returns : goal.returns
returns g c = record {
  wiring = c.loop.invariant.0 ∙ c.power_up-wall.ensures.parts.0;
  state =
      wall_settled g.W.Wiring.layout c.args.wiring c.loop.counter c.power_up-wall.result.wiring c.loop.wall.core
      c.power_up-wall.ensures.parts.0 (omega (arith, c.node_count.ensures, c.slots_for-end.ensures)) c.loop.invariant.1;
}
