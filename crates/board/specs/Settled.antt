-- How a call that may be refused is settled.
use Rattle.std.specs.Prelude.{◌≡◌, Some, None, Ok, Err, Option, Result}
use Rattle.rules.specs.declared.Refusal.{Refusal}

-- Refused for just this reason with everything as it stood, or else accepted with this done.
abbrev pub Settled : {T : Type 0} → Option Refusal → Result T Refusal → (T → Type 0) → Type 0 → Type 0
Settled None (Ok answer) Done Same = Done answer
Settled None (Err reason) Done Same = ⊥
Settled (Some reason) (Ok answer) Done Same = ⊥
Settled (Some reason) (Err given) Done Same = (given ≡ reason) × Same
