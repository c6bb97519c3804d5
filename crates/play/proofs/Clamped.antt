-- A number above 255 is out of range on every wall, as 255 is. So a call with its numbers brought
-- down to 255 does what the rules say of the call itself.
use Rattle.std.proofs.Common.{◌≡◌, ℕ, ◌<◌, ◌≤◌, min, ◌⊎◌, Some, Option, sym, refl, subst, subst₂, inl, inr, arith, MatchOption}
use Rattle.std.proofs.lemmas.Option.{MatchOption-at_some}
use Rattle.std.proofs.lemmas.Bool.{cases_lt, le-leb, lt-leb}
use Rattle.wiring.specs.Layout.{Layout}
use Rattle.rules.specs.declared.Refusal.{Refusal}
use Rattle.rules.specs.declared.Refusal.TheVariants.{NodeOutOfRange, PortOutOfRange}
use Rattle.rules.specs.State.{State}
use Rattle.rules.specs.Calls.{cut_refused, after_cut, hand_refused, after_hand, post_refused, after_post}
use Rattle.rules.specs.Runs.{Call, Reply, refused, done, numbered, cut, hand, slot_call, post, step, Does, cuts, hands, slots, posts, step_refused, steps}
use Rattle.rules.proofs.CallCases.{cut_outside, cut_no_port}

-- A refused call, by its reason, and what then is.
abbrev Turned : State → Reply → State → Refusal → Type 0
Turned s reply after reason = (reply ≡ refused reason) × (after ≡ s)

abbrev Told : Layout → State → Call → Reply → State → Type 0
Told layout s (cut n p) reply after = MatchOption (cut_refused layout s n p) ((reply ≡ done) × (after ≡ after_cut layout s n p)) (Turned s reply after)
Told layout s (hand n) reply after = MatchOption (hand_refused layout n) ((reply ≡ done) × (after ≡ after_hand s n)) (Turned s reply after)
Told layout s slot_call reply after = Unit {0}
Told layout s (post source destination word) reply after =
    MatchOption (post_refused layout s source destination) ((reply ≡ numbered after.last) × (after ≡ after_post s source destination word)) (Turned s reply after)
Told layout s (step free) reply after = Unit {0}

what_told : {layout : Layout} {s : State} {call : Call} {reply : Reply} {after : State} → Does layout s call reply after → Told layout s call reply after
what_told (cuts case) = case
what_told (hands case) = case
what_told (slots e f) = tt
what_told (posts case) = case
what_told (step_refused few e f) = tt
what_told (steps enough did e) = tt

-- Turned down for one reason: what was told of one call holds of another.
turned : (o o' : Option Refusal) (P P' : Type 0) (Q : Refusal → Type 0) (reason : Refusal) → o ≡ Some reason → o' ≡ Some reason → MatchOption o P Q → MatchOption o' P' Q
turned o o' P P' Q reason e f h = subst (λ x. MatchOption x P' Q) (sym f) (MatchOption-at_some P Q reason e h)

small : (n : ℕ) → n < 255 → min n 255 ≡ n
small n h = omega arith

large : (n : ℕ) → 255 ≤ n → 255 ≤ min n 255
large n h = omega arith

module _ (layout : Layout) (few : layout.count ≤ 64) (s : State) (reply : Reply) (after : State) where
  -- Cut

  cut_like : (n p m q : ℕ) (reason : Refusal) → cut_refused layout s n p ≡ Some reason → cut_refused layout s m q ≡ Some reason → Does layout s (cut n p) reply after → Does layout s (cut m q) reply after
  cut_like n p m q reason e f did = cuts (turned (cut_refused layout s n p) (cut_refused layout s m q) _ _ (Turned s reply after) reason e f (what_told did))

  pub cut_clamped : (n p : ℕ) → Does layout s (cut (min n 255) (min p 255)) reply after → Does layout s (cut n p) reply after
  cut_clamped n p did = go (cases_lt n 255) (cases_lt p 255) (cases_lt n layout.count)
    where
      go : (n < 255) ⊎ (255 ≤ n) → (p < 255) ⊎ (255 ≤ p) → (n < layout.count) ⊎ (layout.count ≤ n) → Does layout s (cut n p) reply after
      go (inl a) (inl b) c = subst₂ (λ m q. Does layout s (cut m q) reply after) (small n a) (small p b) did
      go (inl a) (inr b) (inl c) =
          cut_like (min n 255) (min p 255) n p PortOutOfRange
          (cut_no_port layout s (min n 255) (min p 255) (omega (arith, small n a)) (omega (arith, large p b)))
          (cut_no_port layout s n p c (omega arith)) did
      go (inl a) (inr b) (inr c) =
          cut_like (min n 255) (min p 255) n p NodeOutOfRange
          (cut_outside layout s (min n 255) (min p 255) (omega (arith, small n a))) (cut_outside layout s n p c) did
      go (inr a) b c =
          cut_like (min n 255) (min p 255) n p NodeOutOfRange
          (cut_outside layout s (min n 255) (min p 255) (omega (arith, large n a))) (cut_outside layout s n p (omega arith)) did

  -- Hand

  hand_outside : (n : ℕ) → layout.count ≤ n → hand_refused layout n ≡ Some NodeOutOfRange
  unfolding hand_refused
  hand_outside n h = rw (le-leb _ _ h) refl

  pub hand_clamped : (n : ℕ) → Does layout s (hand (min n 255)) reply after → Does layout s (hand n) reply after
  hand_clamped n did = go (cases_lt n 255)
    where
      go : (n < 255) ⊎ (255 ≤ n) → Does layout s (hand n) reply after
      go (inl a) = subst (λ m. Does layout s (hand m) reply after) (small n a) did
      go (inr a) =
          hands (turned (hand_refused layout (min n 255)) (hand_refused layout n) _ _ (Turned s reply after) NodeOutOfRange
          (hand_outside (min n 255) (omega (arith, large n a))) (hand_outside n (omega arith)) (what_told did))

  -- Post

  source_outside : (n m : ℕ) → layout.count ≤ n → post_refused layout s n m ≡ Some NodeOutOfRange
  unfolding post_refused
  source_outside n m h = rw (le-leb _ _ h) refl

  destination_outside : (n m : ℕ) → n < layout.count → layout.count ≤ m → post_refused layout s n m ≡ Some NodeOutOfRange
  unfolding post_refused
  destination_outside n m h k = rw (lt-leb _ _ h, le-leb _ _ k) refl

  -- Turned down, whether or not the source is in range.
  post_outside : (n m : ℕ) → layout.count ≤ m → post_refused layout s n m ≡ Some NodeOutOfRange
  post_outside n m h = go (cases_lt n layout.count)
    where
      go : (n < layout.count) ⊎ (layout.count ≤ n) → post_refused layout s n m ≡ Some NodeOutOfRange
      go (inl a) = destination_outside n m a h
      go (inr a) = source_outside n m a

  pub post_clamped : (n m word : ℕ) → Does layout s (post (min n 255) (min m 255) word) reply after → Does layout s (post n m word) reply after
  post_clamped n m word did = go (cases_lt n 255) (cases_lt m 255)
    where
      like : post_refused layout s (min n 255) (min m 255) ≡ Some NodeOutOfRange → post_refused layout s n m ≡ Some NodeOutOfRange → Does layout s (post n m word) reply after
      like e f = posts (turned (post_refused layout s (min n 255) (min m 255)) (post_refused layout s n m) _ _ (Turned s reply after) NodeOutOfRange e f (what_told did))

      go : (n < 255) ⊎ (255 ≤ n) → (m < 255) ⊎ (255 ≤ m) → Does layout s (post n m word) reply after
      go (inl a) (inl b) = subst₂ (λ x y. Does layout s (post x y word) reply after) (small n a) (small m b) did
      go (inl a) (inr b) = like (post_outside (min n 255) (min m 255) (omega (arith, large m b))) (post_outside n m (omega arith))
      go (inr a) b = like (source_outside (min n 255) (min m 255) (omega (arith, large n a))) (source_outside n m (omega arith))
