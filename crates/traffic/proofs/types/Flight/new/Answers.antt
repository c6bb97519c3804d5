use Rattle.std.proofs.Common.{refl, lit≤}
use Rattle.traffic.proofs.Standing.{nowhere_inside}
use Rattle.traffic.proofs.types.Flight.new.Goals as goal

pub invariant_of-result : goal.invariant_of-result
invariant_of-result c = record { few = lit≤ tt; long = refl; inside = nowhere_inside 256 }
