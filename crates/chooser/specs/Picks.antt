-- Which port is picked: the first that is offered, in an order of the chooser's own.
use Rattle.std.specs.Prelude.{ℕ, ◌+◌, ◌%◌, Bool, cond, List, [], ◌∷◌}

-- the first port of the order that is offered; 0 if none is
abbrev pub first_of : (ℕ → Bool) → List ℕ → ℕ
first_of offered [] = 0
first_of offered (p ∷ ps) = cond (offered p) p (first_of offered ps)

-- the ports in rising order
abbrev pub lowest_first : List ℕ
lowest_first = 0 ∷ 1 ∷ 2 ∷ 3 ∷ []

-- the ports in the order in which they follow port p, going round from 3 to 0; p comes last
abbrev pub following : ℕ → List ℕ
following p = (p + 1) % 4 ∷ (p + 2) % 4 ∷ (p + 3) % 4 ∷ p % 4 ∷ []
