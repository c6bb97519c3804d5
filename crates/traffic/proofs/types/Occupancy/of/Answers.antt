use Rattle.std.proofs.Common.{List, length, get_or, take, sym, ap, ◌∙◌, subst, arith}
use Rattle.std.proofs.lemmas.List.{length-take-le, take_all}
use Rattle.rules.specs.declared.Packet.{Packet}
use Rattle.traffic.specs.Inside.{Inside, nowhere}
use Rattle.traffic.specs.Occupied.{Counts}
use Rattle.traffic.proofs.Occupancies.{room_for_few, fours_none, counts_none, counts_push}
use Rattle.traffic.proofs.Standing.{in_flight, packets_inside}
use Rattle.traffic.proofs.types.Occupancy.of.Goals as goal

pub invariant_of-occupancy-clause-four : goal.invariant_of-occupancy-clause-four
invariant_of-occupancy-clause-four c = fours_none

pub loop-x-init : goal.loop-x-init
loop-x-init c = counts_none

pub arrive-requires : goal.arrive-requires
arrive-requires c = (
  subst (λ (xs : List Packet). Inside (get_or xs c.loop-x.x-index nowhere))
      (sym c.packets-x-items.ensures) (packets_inside c.args.flight.now c.loop-x.x-index),
  room_for_few c.loop-x.occupancy (take c.loop-x.x-index c.packets-x-items.result.now) c.loop-x.invariant
      (omega (
        arith,
        length-take-le c.loop-x.x-index c.packets-x-items.result.now (omega arith),
        ap length c.packets-x-items.ensures,
        in_flight c.args.flight.now,
      )),
)

pub loop-x-preserved : goal.loop-x-preserved
loop-x-preserved c =
    counts_push c.loop-x.occupancy c.arrive.new.self c.packets-x-items.result.now c.loop-x.x-index nowhere (omega arith)
    c.arrive.ensures c.loop-x.invariant

pub returns : goal.returns
returns c =
    subst (Counts c.loop-x.occupancy)
    (take_all c.loop-x.x-index c.packets-x-items.result.now (omega arith) ∙ c.packets-x-items.ensures) c.loop-x.invariant
