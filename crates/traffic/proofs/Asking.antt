-- The chooser's answers in order, and that each lies in its offer.
use Rattle.std.proofs.Common.{◌≡◌, ℕ, zero, suc, true, false, not, List, [], ◌∷◌, ◌++◌, refl, ap, ◌∙◌, subst}
use Rattle.std.specs.List.{AllByRecursion}
use Rattle.std.proofs.lemmas.Bool.{false≢true}
use Rattle.std.proofs.lemmas.Bool.Decides.{when_true}
use Rattle.chooser.specs.declared.ports.PortSet.{PortSet}
use Rattle.chooser.specs.PortSets as chooser
use Rattle.rules.specs.Ports.{Ports, has}
use Rattle.rules.specs.Runs.{InOffer}
use Rattle.traffic.specs.Choosing.{offer_set, Asked, Answered}
use Rattle.traffic.proofs.Decisions.{vacant_is}

module _ {C : Type 0} (picks : C → PortSet → ℕ → C → Type 0) where
  pub answered_more : (asked : List (Ports × ℕ)) (ask : Ports × ℕ) (a b c : C) →
      Answered picks asked a b → Asked picks ask b c → Answered picks (asked ++ ask ∷ []) a c
  answered_more [] ask a b c h k = (c, (subst (λ (m : C). Asked picks ask m c) h k, refl))
  answered_more (one ∷ asked) ask a b c h k = (h.0, (h.1.0, answered_more asked ask h.0 b c h.1.1 k))

  has_from_set : (ports : Ports) (p : ℕ) → chooser.has (offer_set ports) p ≡ true → has ports p ≡ true
  has_from_set ports zero e = e
  has_from_set ports (suc zero) e = e
  has_from_set ports (suc (suc zero)) e = e
  has_from_set ports (suc (suc (suc zero))) e = e
  has_from_set ports (suc (suc (suc (suc p)))) e = absurd (false≢true e)

  module _ (inside : (before after : C) (offer : PortSet) (port : ℕ) → picks before offer port after → chooser.vacant offer ≡ false → chooser.has offer port ≡ true) where
    in_offer : (ask : Ports × ℕ) (a b : C) → Asked picks ask a b → InOffer ask
    in_offer ask a b h some =
        let picked = when_true (picks a (offer_set ask.0) ask.1 b) ((ask.1 ≡ 0) × (b ≡ a)) some h in
        has_from_set ask.0 ask.1 (inside a b (offer_set ask.0) ask.1 picked (vacant_is ask.0 ∙ ap not some))

    pub in_offers : (asked : List (Ports × ℕ)) (a b : C) → Answered picks asked a b → AllByRecursion InOffer asked
    in_offers [] a b h = tt
    in_offers (ask ∷ asked) a b h = (in_offer ask a h.0 h.1.0, in_offers asked h.0 b h.1.1)
