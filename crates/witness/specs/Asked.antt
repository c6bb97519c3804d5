-- One chooser asked several times.
use Rattle.std.specs.Prelude.{◌≡◌, ℕ, List, [], ◌∷◌}
use Rattle.chooser.specs.declared.ports.PortSet.{PortSet}

-- the ports are the chooser's own answers to the offers, in order, from the value `before` to the value `after`
abbrev pub Asked :
    {C : Type 0} → (C → PortSet → ℕ → C → Type 0) → C → List PortSet → List ℕ → C → Type 0
Asked picks before [] [] after = after ≡ before
Asked picks before [] (p ∷ ps) after = ⊥
Asked picks before (o ∷ os) [] after = ⊥
Asked {C} picks before (o ∷ os) (p ∷ ps) after = (middle : C) × picks before o p middle × Asked picks middle os ps after
