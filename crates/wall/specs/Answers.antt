-- What the questions answer.
use Rattle.std.specs.Prelude.{◌≡◌, ℕ, Bool, true, false, ◌||◌, Some, None, Ok, Err, Option, Result, nat_le}
use Rattle.wiring.specs.Layout.{Layout}
use Rattle.chooser.specs.declared.ports.PortSet.{PortSet}
use Rattle.rules.specs.declared.Refusal.{Refusal}
use Rattle.rules.specs.declared.Refusal.TheVariants.{NodeOutOfRange}
use Rattle.rules.specs.State.{Node, Entry, nothing, entry}
use Rattle.rules.specs.Promise.{Recovers}
use Rattle.traffic.specs.Choosing.{offer_set}

-- Refused for a node out of range, or the value.
abbrev pub checked : {T : Type 0} → Bool → T → Result T Refusal
checked true value = Err NodeOutOfRange
checked false value = Ok value

-- The answer about one node.
abbrev pub asked_of : {T : Type 0} → Layout → ℕ → T → Result T Refusal
asked_of layout node value = checked (nat_le layout.count node) value

-- An entry as its set of ports and its count together.
abbrev pub entry_pair : Entry → Option (PortSet × ℕ)
entry_pair nothing = None
entry_pair (entry ports count) = Some (offer_set ports, count)

-- The answer about an entry.
abbrev pub entry_answer : Layout → ℕ → ℕ → Entry → Result (Option (PortSet × ℕ)) Refusal
entry_answer layout node destination e = checked (nat_le layout.count node || nat_le layout.count destination) (entry_pair e)

-- What a calm wall has of each node: its hand is down, and it does not recover.
abbrev pub Rests : Node → Type 0
Rests node = (node.hand ≡ false) × (Recovers node.mode → ⊥)
