-- A cut that is not refused keeps the invariant: the cable is dead at both ends, and the hands of
-- both ends go up.
use Rattle.std.proofs.Common.{◌≡◌, ℕ, ◌<◌, true, false, leb, ◌⊎◌, List, length, Some, None, Option, sym, refl, ap, ◌∙◌, inl, inr, arith}
use Rattle.std.proofs.lemmas.Bool.{both_ways, cases_eq}
use Rattle.wiring.specs.Layout.{Layout, Sound}
use Rattle.rules.specs.declared.Refusal.TheVariants.{NodeOutOfRange, PortOutOfRange, NoCable}
use Rattle.rules.specs.Ports.{has}
use Rattle.rules.specs.State.{Node, State, node_of, live_of}
use Rattle.rules.specs.Calls.{outside, no_cable, changed, cut_end, cut_refused, after_cut}
use Rattle.rules.proofs.Invariant.{Cable, Invariant}
use Rattle.rules.proofs.Tables.{without_has, without_other}
use Rattle.rules.proofs.Distance.{far_live}
use Rattle.rules.proofs.Disturbed.{Disturbed, disturbed_keeps}
use Rattle.rules.proofs.Raising.{check_passed, changed_length, changed_same, changed_other, changed_leaves}

-- One end of a cut cable

module _ (n p : ℕ) (nodes : List Node) (below : n < length nodes) where
  end_hand : (node_of (changed (cut_end p) n nodes) n).hand ≡ true
  unfolding cut_end
  end_hand = ap (λ (node : Node). node.hand) (changed_same (cut_end p) n nodes below)

  end_hand_other : (a : ℕ) → (a ≡ n → ⊥) → (node_of (changed (cut_end p) n nodes) a).hand ≡ (node_of nodes a).hand
  end_hand_other a other = ap (λ (node : Node). node.hand) (changed_other (cut_end p) n nodes a other)

  end_down_before : (a : ℕ) → (node_of (changed (cut_end p) n nodes) a).hand ≡ false → (node_of nodes a).hand ≡ false
  end_down_before a down = go (cases_eq a n)
    where
      go : (a ≡ n) ⊎ (a ≡ n → ⊥) → (node_of nodes a).hand ≡ false
      go (inl e) = absurd (both_ways (node_of (changed (cut_end p) n nodes) n).hand (rw e at down) end_hand)
      go (inr other) = sym (end_hand_other a other) ∙ down

  end_live_same : (b : ℕ) → b < 4 → (b ≡ p → ⊥) → live_of (changed (cut_end p) n nodes) n b ≡ live_of nodes n b
  unfolding cut_end
  end_live_same b port other =
      ap (λ (node : Node). has node.live b) (changed_same (cut_end p) n nodes below) ∙ without_other (node_of nodes n).live p b port other

  end_live_other : (a b : ℕ) → (a ≡ n → ⊥) → live_of (changed (cut_end p) n nodes) a b ≡ live_of nodes a b
  end_live_other a b other = ap (λ (node : Node). has node.live b) (changed_other (cut_end p) n nodes a other)

  -- A cable that is live afterwards was live before, and is another.
  end_live_before : (a b : ℕ) → live_of (changed (cut_end p) n nodes) a b ≡ true → (live_of nodes a b ≡ true) × (a ≡ n → b ≡ p → ⊥)
  unfolding cut_end
  end_live_before a b live = go (cases_eq a n)
    where
      here : live_of (changed (cut_end p) n nodes) n b ≡ true → (b < 4) × (live_of nodes n b ≡ true) × (b ≡ p → ⊥)
      here e = without_has (node_of nodes n).live p b (sym (ap (λ (node : Node). has node.live b) (changed_same (cut_end p) n nodes below)) ∙ e)

      go : (a ≡ n) ⊎ (a ≡ n → ⊥) → (live_of nodes a b ≡ true) × (a ≡ n → b ≡ p → ⊥)
      go (inl e) = (rw e (here (rw e at live)).1, λ same. (here (rw e at live)).2)
      go (inr other) = (sym (end_live_other a b other) ∙ live, λ same. absurd (other same))

  end_live_still : (a b : ℕ) → b < 4 → live_of nodes a b ≡ true → (a ≡ n → b ≡ p → ⊥) → live_of (changed (cut_end p) n nodes) a b ≡ true
  end_live_still a b port live another = go (cases_eq a n)
    where
      go : (a ≡ n) ⊎ (a ≡ n → ⊥) → live_of (changed (cut_end p) n nodes) a b ≡ true
      go (inl e) = rw e (end_live_same b port (another e) ∙ (rw e at live))
      go (inr other) = end_live_other a b other ∙ live

-- Both ends

module _ (layout : Layout) (sound : Sound layout) (s : State) (n p m q : ℕ) (inv : Invariant layout s) (cable : Cable layout n p m q) where
  below : n < length s.nodes
  below = omega (arith, inv.shaped.nodes_long, (sound.in_range m q n p (sound.returns n p m q cable)).0)

  one : List Node
  one = changed (cut_end p) n s.nodes

  far_below : m < length one
  unfolding one
  far_below = omega (arith, inv.shaped.nodes_long, changed_length (cut_end p) n s.nodes, (sound.in_range n p m q cable).0)

  both : List Node
  both = changed (cut_end q) m one

  leaves : {X : Type 0} (look : Node → X) → ((r : ℕ) (node : Node) → look (cut_end r node) ≡ look node) → (a : ℕ) →
      look (node_of both a) ≡ look (node_of s.nodes a)
  unfolding one both
  leaves look same a =
      changed_leaves look (cut_end q) m one far_below (same q) a ∙ changed_leaves look (cut_end p) n s.nodes below (same p) a

  -- Both hands are up.
  near_hand : (node_of both n).hand ≡ true
  unfolding one both
  near_hand = end_hand_other m q one far_below n (λ e. sound.no_self n p m q cable (sym e)) ∙ end_hand n p s.nodes below

  live_before : (a b : ℕ) → live_of both a b ≡ true → (live_of s.nodes a b ≡ true) × (a ≡ n → b ≡ p → ⊥) × (a ≡ m → b ≡ q → ⊥)
  unfolding one both
  live_before a b live =
      let later = end_live_before m q one far_below a b live in
      let first = end_live_before n p s.nodes below a b later.0 in
      (first.0, first.1, later.1)

  live_still : (a b : ℕ) → b < 4 → live_of s.nodes a b ≡ true → (a ≡ n → b ≡ p → ⊥) → (a ≡ m → b ≡ q → ⊥) → live_of both a b ≡ true
  unfolding one both
  live_still a b port live first later =
      end_live_still m q one far_below a b port (end_live_still n p s.nodes below a b port live first) later

  -- The ends of one cable are the cut cable's or not, both.
  still_far : (a b c d : ℕ) → Cable layout a b c d → live_of both a b ≡ true → live_of both c d ≡ true
  still_far a b c d other live =
      live_still c d (sound.in_range a b c d other).1 (far_live layout s.nodes inv.cabled.live_both a b c d other (live_before a b live).0)
      (λ e f. meets n p m q cable e f (live_before a b live).2)
      (λ e f. meets m q n p (sound.returns n p m q cable) e f (live_before a b live).1)
    where
      meets : (x y z w : ℕ) → Cable layout x y z w → c ≡ x → d ≡ y → (a ≡ z → b ≡ w → ⊥) → ⊥
      meets x y z w this e f apart =
          let back = sound.returns a b c d other in
          let there : layout.far c d ≡ Some (z, w) = rw (e, f) this in
          let same : ◌≡◌ {A = ℕ × ℕ} (a, b) (z, w) = cc in
          apart (ap (λ (end : ℕ × ℕ). end.0) same) (ap (λ (end : ℕ × ℕ). end.1) same)

  cut_up : (a b : ℕ) → live_of s.nodes a b ≡ true → live_of both a b ≡ false → (node_of both a).hand ≡ true
  unfolding one both
  cut_up a b live dead = go (cases_eq a n) (cases_eq a m)
    where
      go : (a ≡ n) ⊎ (a ≡ n → ⊥) → (a ≡ m) ⊎ (a ≡ m → ⊥) → (node_of both a).hand ≡ true
      go (inl e) far = rw e near_hand
      go (inr other) (inl e) = rw e (end_hand m q one far_below)
      go (inr other) (inr elsewhere) =
          absurd (both_ways (live_of both a b) dead (end_live_other m q one far_below a b elsewhere ∙ end_live_other n p s.nodes below a b other ∙ live))

  cut_disturbs : Disturbed layout s.nodes both
  unfolding one both cut_end
  cut_disturbs = record {
    as_long = changed_length (cut_end q) m one ∙ changed_length (cut_end p) n s.nodes;
    mode_same = leaves (λ node. node.mode) (λ r node. refl);
    marks_same = leaves (λ node. node.marks) (λ r node. refl);
    row_same = leaves (λ node. node.row) (λ r node. refl);
    live_before = λ a b live. (live_before a b live).0;
    live_far = still_far;
    down_before = λ a down. end_down_before n p s.nodes below a (end_down_before m q one far_below a down);
    cut_up = cut_up;
  }

  cable_keeps : Invariant layout (after_cut layout s n p)
  unfolding after_cut one both
  cable_keeps = rw (cable, after_cut) (disturbed_keeps layout s both cut_disturbs inv)

-- A cut that is not refused is of a cable.
cut_cable : (layout : Layout) (n p : ℕ) → no_cable layout n p ≡ false → (m : ℕ) × (q : ℕ) × Cable layout n p m q
cut_cable layout n p = go (layout.far n p) refl
  where
    go : (far : Option (ℕ × ℕ)) → layout.far n p ≡ far → elim far [ None ↦ true | Some end ↦ false ] ≡ false → (m : ℕ) × (q : ℕ) × Cable layout n p m q
    go None e none = absurd (both_ways true none refl)
    go (Some end) e some = (end.0, end.1, e)

pub cut_keeps : (layout : Layout) (sound : Sound layout) (s : State) (n p : ℕ) → Invariant layout s → cut_refused layout s n p ≡ None → Invariant layout (after_cut layout s n p)
unfolding cut_refused
cut_keeps layout sound s n p inv e =
    let in_wall = check_passed (outside layout n) NodeOutOfRange _ e in
    let a_port = check_passed (leb 4 p) PortOutOfRange _ in_wall.1 in
    let a_cable = check_passed (no_cable layout n p) NoCable _ a_port.1 in
    let end = cut_cable layout n p a_cable.0 in
    cable_keeps layout sound s n p end.0 end.1 inv end.2
