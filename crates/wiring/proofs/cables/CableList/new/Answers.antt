use Rattle.std.proofs.Common.{length, ap, ◌∙◌, arith}
use Rattle.wiring.specs.Cables.{cabled}
use Rattle.wiring.proofs.Table.{bare_sound, bare_lone}
use Rattle.wiring.proofs.cables.CableList.new.Goals as goal

pub invariant_of-result : goal.invariant_of-result
invariant_of-result c =
    let e = c.no_cables.ensures in
    record { few = omega arith; size = ap length e; sound = ∣ rw e (bare_sound 1 (omega arith) (omega arith)) ∣₁ }

pub returns : goal.returns
returns c = ap (cabled 1) c.no_cables.ensures ∙ bare_lone
