-- The laws of one chooser asked several times.
use Rattle.std.proofs.Common.{◌≡◌, ℕ, suc, List, [], ◌∷◌, ◌++◌, length, refl, ap, subst}
use Rattle.chooser.specs.declared.ports.PortSet.{PortSet}
use Rattle.witness.specs.Asked.{Asked}

module _ {C : Type 0} (picks : C → PortSet → ℕ → C → Type 0) where
  pub asked_more :
      (os : List PortSet) (ps : List ℕ) (a b c : C) (o : PortSet) (p : ℕ) →
      Asked picks a os ps b →
      picks b o p c →
      Asked picks a (os ++ o ∷ []) (ps ++ p ∷ []) c
  asked_more [] [] a b c o p h k = (c, subst (λ (x : C). picks x o p c) h k, refl)
  asked_more [] (q ∷ ps) a b c o p h k = absurd h
  asked_more (o' ∷ os) [] a b c o p h k = absurd h
  asked_more (o' ∷ os) (q ∷ ps) a b c o p h k = (h.0, h.1, asked_more os ps h.0 b c o p h.2 k)

  pub asked_length : (os : List PortSet) (ps : List ℕ) (a b : C) → Asked picks a os ps b → length ps ≡ length os
  asked_length [] [] a b h = refl
  asked_length [] (p ∷ ps) a b h = absurd h
  asked_length (o ∷ os) [] a b h = absurd h
  asked_length (o ∷ os) (p ∷ ps) a b h = ap suc (asked_length os ps h.0 b h.2)
