use Rattle.std.proofs.Common.{refl, arith}
use Rattle.wiring.proofs.Table.{bare_sound}
use Rattle.wiring.proofs.cables.CableList.without_cables.Goals as goal

pub invariant_of-result : goal.invariant_of-result
invariant_of-result c = record { few = omega arith; size = refl; sound = ∣ bare_sound c.args.count c.requires.some c.requires.few ∣₁ }
