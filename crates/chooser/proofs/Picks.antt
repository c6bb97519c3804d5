-- The first port of an order that is offered, as it is found.
use Rattle.std.proofs.Common.{◌≡◌, ℕ, Bool, true, false, cond, List, [], ◌∷◌, Some, refl}
use Rattle.std.specs.Prelude.{find, unwrap_or}
use Rattle.chooser.specs.Picks.{first_of}

pub first_found : (offered : ℕ → Bool) (order : List ℕ) → unwrap_or (find offered order) 0 ≡ first_of offered order
first_found offered [] = refl
first_found offered (p ∷ ps) = go (offered p) (first_found offered ps)
  where
    go : (b : Bool) → unwrap_or (find offered ps) 0 ≡ first_of offered ps → unwrap_or (cond b (Some p) (find offered ps)) 0 ≡ cond b p (first_of offered ps)
    go true later = refl
    go false later = later
