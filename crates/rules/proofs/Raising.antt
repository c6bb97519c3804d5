-- A hand call that is not refused keeps the invariant: one node's hand goes up. Also here: readings
-- of a list with one node changed, and of a chain of checks.
use Rattle.std.proofs.Common.{◌≡◌, ℕ, ◌<◌, Bool, true, false, ◌⊎◌, List, length, None, Option, sym, refl, ap, ◌∙◌, inl, inr, arith, length-set}
use Rattle.std.proofs.lemmas.List.{get_or-set_same, get_or-set_other}
use Rattle.std.proofs.lemmas.Bool.{both_ways, cases_eq, leb-false}
use Rattle.wiring.specs.Layout.{Layout, Sound}
use Rattle.rules.specs.declared.Refusal.{Refusal}
use Rattle.rules.specs.declared.Refusal.TheVariants.{NodeOutOfRange}
use Rattle.rules.specs.Ports.{has}
use Rattle.rules.specs.State.{Node, State, absent, node_of, live_of}
use Rattle.rules.specs.Calls.{refuse_if, outside, changed, raised, hand_refused, after_hand}
use Rattle.rules.proofs.Invariant.{Cable, Invariant}
use Rattle.rules.proofs.Distance.{far_live}
use Rattle.rules.proofs.Disturbed.{Disturbed, disturbed_keeps}

-- A check that was passed.
pub check_passed : (test : Bool) (reason : Refusal) (later : Option Refusal) → refuse_if test reason later ≡ None → (test ≡ false) × (later ≡ None)
check_passed true reason later e =
    let clash : ◌≡◌ {A = ℕ} 0 1 = cc in
    absurd (omega arith)
check_passed false reason later e = (refl, e)

pub inside : (layout : Layout) (n : ℕ) → outside layout n ≡ false → n < layout.count
inside layout n e = leb-false layout.count n e

-- One node changed

pub changed_length : (f : Node → Node) (n : ℕ) (nodes : List Node) → length (changed f n nodes) ≡ length nodes
unfolding changed
changed_length f n nodes = length-set nodes n (f (node_of nodes n))

pub changed_same : (f : Node → Node) (n : ℕ) (nodes : List Node) → n < length nodes → node_of (changed f n nodes) n ≡ f (node_of nodes n)
unfolding changed
changed_same f n nodes below = get_or-set_same nodes n (f (node_of nodes n)) absent below

pub changed_other : (f : Node → Node) (n : ℕ) (nodes : List Node) (m : ℕ) → (m ≡ n → ⊥) → node_of (changed f n nodes) m ≡ node_of nodes m
unfolding changed
changed_other f n nodes m other = get_or-set_other nodes n m (f (node_of nodes n)) absent other

-- What the change leaves alone is the same at every node.
pub changed_leaves : {X : Type 0} (look : Node → X) (f : Node → Node) (n : ℕ) (nodes : List Node) → n < length nodes →
    ((node : Node) → look (f node) ≡ look node) → (m : ℕ) → look (node_of (changed f n nodes) m) ≡ look (node_of nodes m)
changed_leaves look f n nodes below same m = go (cases_eq m n)
  where
    go : (m ≡ n) ⊎ (m ≡ n → ⊥) → look (node_of (changed f n nodes) m) ≡ look (node_of nodes m)
    go (inl e) = rw e (ap look (changed_same f n nodes below) ∙ same (node_of nodes n))
    go (inr other) = ap look (changed_other f n nodes m other)

-- A hand that goes up

module _ (layout : Layout) (n : ℕ) (nodes : List Node) (below : n < length nodes) where
  live_same : (m p : ℕ) → live_of (changed raised n nodes) m p ≡ live_of nodes m p
  unfolding raised
  live_same m p = changed_leaves (λ node. has node.live p) raised n nodes below (λ node. refl) m

  down_before : (m : ℕ) → (node_of (changed raised n nodes) m).hand ≡ false → (node_of nodes m).hand ≡ false
  unfolding raised
  down_before m down = go (cases_eq m n)
    where
      go : (m ≡ n) ⊎ (m ≡ n → ⊥) → (node_of nodes m).hand ≡ false
      go (inl e) = absurd (both_ways false refl (sym (rw (e, changed_same raised n nodes below) at down)))
      go (inr other) = sym (ap (λ (node : Node). node.hand) (changed_other raised n nodes m other)) ∙ down

  raised_disturbs : ((m p l q : ℕ) → Cable layout m p l q → live_of nodes m p ≡ true → live_of nodes l q ≡ true) → Disturbed layout nodes (changed raised n nodes)
  unfolding raised
  raised_disturbs far = record {
    as_long = changed_length raised n nodes;
    mode_same = changed_leaves (λ node. node.mode) raised n nodes below (λ node. refl);
    marks_same = changed_leaves (λ node. node.marks) raised n nodes below (λ node. refl);
    row_same = changed_leaves (λ node. node.row) raised n nodes below (λ node. refl);
    live_before = λ m p live. sym (live_same m p) ∙ live;
    live_far = λ m p l q cable live. live_same l q ∙ far m p l q cable (sym (live_same m p) ∙ live);
    down_before = down_before;
    cut_up = λ m p live dead. absurd (both_ways (live_of nodes m p) (sym (live_same m p) ∙ dead) live);
  }

pub hand_keeps : (layout : Layout) (sound : Sound layout) (s : State) (n : ℕ) → Invariant layout s → hand_refused layout n ≡ None → Invariant layout (after_hand s n)
unfolding hand_refused after_hand
hand_keeps layout sound s n inv e =
    let range = inside layout n (check_passed (outside layout n) NodeOutOfRange None e).0 in
    let below : n < length s.nodes = omega (arith, inv.shaped.nodes_long) in
    disturbed_keeps layout s (changed raised n s.nodes) (raised_disturbs layout n s.nodes below (far_live layout s.nodes inv.cabled.live_both)) inv
