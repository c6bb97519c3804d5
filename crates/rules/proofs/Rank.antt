-- A number for each place where a packet can stand at a marked port, which falls with every
-- permitted crossing of a live cable: so no permitted crossings make a circle.
use Rattle.std.proofs.Common.{◌≡◌, ℕ, ◌+◌, ◌-◌, ◌<◌, ◌≤◌, true, false, not, ◌&&◌, ◌⊎◌, sym, refl, ap, ◌∙◌, inl, inr, arith}
use Rattle.std.proofs.lemmas.Bool.{both_ways, and_parts}
use Rattle.wiring.specs.Layout.{Layout, Sound}
use Rattle.rules.specs.declared.Mark.{Mark}
use Rattle.rules.specs.declared.Mark.TheVariants.{Unmarked, Up, Down}
use Rattle.rules.specs.State.{State}
use Rattle.rules.specs.Flood.{is_up, is_marked}
use Rattle.rules.specs.Step.{turn}
use Rattle.rules.specs.Promise.{Turns, rest, on, Circle}
use Rattle.rules.proofs.Distance.{far_live}
use Rattle.rules.proofs.Invariant.{Cable, Cabled, Ordered, Invariant, live_at, mark_at}

-- At a port marked down a packet came up, and at one marked up it came down.
abbrev pub rank_by : Mark → ℕ → ℕ → ℕ
rank_by Unmarked top ord = 0
rank_by Up top ord = top - ord
rank_by Down top ord = top + ord

abbrev pub rank : (layout : Layout) (s : State) → Ordered layout s → ℕ → ℕ → ℕ
rank layout s ordered n a = rank_by (mark_at s n a) ordered.top (ordered.ord n)

-- Turns

pub turn_from_marked : (from to : Mark) → turn from to ≡ true → is_marked from ≡ true
unfolding turn
turn_from_marked from to t =
    (and_parts (is_marked from) (is_marked to) (and_parts (is_marked from && is_marked to) (not (is_up from && is_up to)) t).0).0

pub turn_to_marked : (from to : Mark) → turn from to ≡ true → is_marked to ≡ true
unfolding turn
turn_to_marked from to t =
    (and_parts (is_marked from) (is_marked to) (and_parts (is_marked from && is_marked to) (not (is_up from && is_up to)) t).0).1

pub never_up_up : turn Up Up ≡ true → ⊥
unfolding turn
never_up_up t = both_ways false refl t

pub marked_cases : (mark : Mark) → is_marked mark ≡ true → (mark ≡ Up) ⊎ (mark ≡ Down)
marked_cases Unmarked h = absurd (both_ways false refl h)
marked_cases Up h = inl refl
marked_cases Down h = inr refl

-- The far end of a live marked cable

module _ (layout : Layout) (sound : Sound layout) (s : State) where
  pub far_of_up : Cabled layout s → Ordered layout s → (n p m q : ℕ) →
      Cable layout n p m q → live_at s n p ≡ true → mark_at s n p ≡ Up → mark_at s m q ≡ Down
  far_of_up cabled ordered n p m q cable live up =
      go (marked_cases (mark_at s m q) (sym (cabled.marked_both n p m q cable live) ∙ ap is_marked up))
    where
      go : (mark_at s m q ≡ Up) ⊎ (mark_at s m q ≡ Down) → mark_at s m q ≡ Down
      go (inl e) =
          let there = ordered.up_lower n p m q cable live up in
          let back = ordered.up_lower m q n p (sound.returns n p m q cable) (far_live layout s.nodes cabled.live_both n p m q cable live) e in
          absurd (omega arith)
      go (inr e) = e

  pub far_of_down : Cabled layout s → Ordered layout s → (n p m q : ℕ) →
      Cable layout n p m q → live_at s n p ≡ true → mark_at s n p ≡ Down → mark_at s m q ≡ Up
  far_of_down cabled ordered n p m q cable live down =
      go (marked_cases (mark_at s m q) (sym (cabled.marked_both n p m q cable live) ∙ ap is_marked down))
    where
      go : (mark_at s m q ≡ Up) ⊎ (mark_at s m q ≡ Down) → mark_at s m q ≡ Up
      go (inl e) = e
      go (inr e) =
          let there = ordered.down_higher n p m q cable live down in
          let back = ordered.down_higher m q n p (sound.returns n p m q cable) (far_live layout s.nodes cabled.live_both n p m q cable live) e in
          absurd (omega arith)

  pub rank_falls : Cabled layout s → (ordered : Ordered layout s) → (n a p m q : ℕ) →
      turn (mark_at s n a) (mark_at s n p) ≡ true → live_at s n p ≡ true → Cable layout n p m q →
      rank layout s ordered m q < rank layout s ordered n a
  rank_falls cabled ordered n a p m q permitted live cable =
      go (mark_at s n a) (mark_at s n p) refl refl permitted
    where
      below : ordered.ord m < ordered.top
      below = ordered.ord_below m (sound.in_range n p m q cable).0

      go : (from to : Mark) → mark_at s n a ≡ from → mark_at s n p ≡ to → turn from to ≡ true →
          rank layout s ordered m q < rank_by from ordered.top (ordered.ord n)
      go Unmarked to from_is to_is t = absurd (both_ways false refl (turn_from_marked Unmarked to t))
      go Up Unmarked from_is to_is t = absurd (both_ways false refl (turn_to_marked Up Unmarked t))
      go Up Up from_is to_is t = absurd (never_up_up t)
      go Up Down from_is to_is t =
          let far = far_of_down cabled ordered n p m q cable live to_is in
          let higher = ordered.down_higher n p m q cable live to_is in
          rw far (omega (arith, below))
      go Down Unmarked from_is to_is t = absurd (both_ways false refl (turn_to_marked Down Unmarked t))
      go Down Up from_is to_is t =
          let far = far_of_up cabled ordered n p m q cable live to_is in
          let lower = ordered.up_lower n p m q cable live to_is in
          rw far (omega (arith, below))
      go Down Down from_is to_is t =
          let far = far_of_down cabled ordered n p m q cable live to_is in
          let higher = ordered.down_higher n p m q cable live to_is in
          rw far (omega (arith, below))

  pub turns_fall : Cabled layout s → (ordered : Ordered layout s) → {n a m b k : ℕ} → Turns layout s n a m b k →
      rank layout s ordered m b + k ≤ rank layout s ordered n a
  turns_fall cabled ordered rest = omega arith
  turns_fall cabled ordered (on {n} {a} {p} {m} {q} permitted live cable turns) =
      omega (arith, turns_fall cabled ordered turns, rank_falls cabled ordered n a p m q permitted live cable)

pub no_circle : (layout : Layout) → Sound layout → (s : State) → Invariant layout s → Circle layout s → ⊥
no_circle layout sound s invariant (n, a, k, turns) =
    omega (arith, turns_fall layout sound s invariant.cabled invariant.ordered turns)
