-- When a cut or a hand is refused, case by case.
use Rattle.std.proofs.Common.{◌≡◌, ℕ, ◌<◌, ◌≤◌, true, false, Some, None, Option, refl, ap}
use Rattle.std.proofs.lemmas.Bool.{le-leb, lt-leb}
use Rattle.wiring.specs.Layout.{Layout}
use Rattle.rules.specs.declared.Refusal.TheVariants.{NodeOutOfRange, PortOutOfRange, NoCable, AlreadyCut}
use Rattle.rules.specs.State.{State, live_of}
use Rattle.rules.specs.Calls.{refuse_if, is_dead, no_cable, cut_refused, cut_end, changed, with_nodes, after_cut}

none_there : (layout : Layout) (n p : ℕ) → layout.far n p ≡ None → no_cable layout n p ≡ true
none_there layout n p e = ap (λ (o : Option (ℕ × ℕ)). elim o [ None ↦ true | Some far ↦ false ]) e

one_there : (layout : Layout) (n p : ℕ) (far : ℕ × ℕ) → layout.far n p ≡ Some far → no_cable layout n p ≡ false
one_there layout n p far e = ap (λ (o : Option (ℕ × ℕ)). elim o [ None ↦ true | Some far ↦ false ]) e

module _ (layout : Layout) (s : State) (n p : ℕ) where
  pub cut_outside : layout.count ≤ n → cut_refused layout s n p ≡ Some NodeOutOfRange
  unfolding cut_refused
  cut_outside h = rw (le-leb _ _ h) refl

  pub cut_no_port : n < layout.count → 4 ≤ p → cut_refused layout s n p ≡ Some PortOutOfRange
  unfolding cut_refused
  cut_no_port h k = rw (lt-leb _ _ h, le-leb _ _ k) refl

  pub cut_no_cable : n < layout.count → p < 4 → layout.far n p ≡ None → cut_refused layout s n p ≡ Some NoCable
  unfolding cut_refused
  cut_no_cable h k e = rw (lt-leb _ _ h, lt-leb _ _ k, none_there layout n p e) refl

  pub cut_cable : (far : ℕ × ℕ) → n < layout.count → p < 4 → layout.far n p ≡ Some far →
      cut_refused layout s n p ≡ refuse_if (is_dead (live_of s.nodes n p)) AlreadyCut None
  unfolding cut_refused
  cut_cable far h k e = rw (lt-leb _ _ h, lt-leb _ _ k, one_there layout n p far e) refl

  pub cut_does : (m q : ℕ) → layout.far n p ≡ Some (m, q) → after_cut layout s n p ≡ with_nodes s (changed (cut_end q) m (changed (cut_end p) n s.nodes))
  unfolding after_cut
  cut_does m q e = rw (e, after_cut) refl
