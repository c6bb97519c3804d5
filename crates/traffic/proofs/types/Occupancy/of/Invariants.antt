use Rattle.std.proofs.Common.{take}
use Rattle.traffic.specs.Occupied.{Counts}
use Rattle.traffic.proofs.types.Occupancy.of.Given as goal

abbrev pub invariant-loop-x : goal.invariant-loop-x
invariant-loop-x l = Counts l.occupancy (take l.x-index l.x-items)
