-- Modes over a slot that ticks. The slot of a root starts from nodes with all N slots left, one
-- more than between two slots, so what is asked of the modes before a tick is `Loose`.
use Rattle.std.proofs.Common.{◌≡◌, ℕ, zero, suc, ◌+◌, ◌-◌, ◌%◌, ◌<◌, ◌≤◌, Bool, true, false, ◌⊎◌, sym, refl, ap, ◌∙◌, inl, inr, mod-lt, mod-eq_of_lt, arith}
use native.Mathlib.Nat.{mod-add-mod, mod-eq-sub-mod, add-mod_right}
use Rattle.std.proofs.lemmas.Bool.{cases_lt}
use Rattle.wiring.specs.Layout.{Layout, Sound}
use Rattle.rules.specs.declared.Act.TheVariants.{Member}
use Rattle.rules.specs.declared.Mode.{Mode}
use Rattle.rules.specs.declared.Mode.TheVariants.{New, Recovering, Serving}
use Rattle.rules.specs.State.{State}
use Rattle.rules.specs.Flood.{Cell, is_up, is_down, is_marked}
use Rattle.rules.specs.Slot.{act_of, tick_mode, ends_recovery}
use Rattle.rules.proofs.Invariant.{mode_at, hand_at, live_at, mark_at, NamesRoot, Passed, Cable, Moded}
use Rattle.rules.proofs.SlotReads.{Ticked, live_kept, mark_kept}

-- What `Moded` says, with as many slots left as there are nodes.
pub record Loose (layout : Layout) (s : State) : Type 0 where
  pub new_hand : (n : ℕ) → n < layout.count → mode_at s n ≡ New → hand_at s n ≡ true
  pub new_unmarked : (n p : ℕ) → mode_at s n ≡ New → is_marked (mark_at s n p) ≡ false
  pub recovers_both : (n p m q root left : ℕ) → Cable layout n p m q → live_at s n p ≡ true →
      mode_at s n ≡ Recovering root left → mode_at s m ≡ Recovering root left
  pub marked_same : (n p m q : ℕ) → Cable layout n p m q → live_at s n p ≡ true → is_marked (mark_at s n p) ≡ true →
      mode_at s n ≡ mode_at s m
  pub stays_inside : (n p m q root left : ℕ) → Cable layout n p m q → is_marked (mark_at s n p) ≡ true →
      mode_at s n ≡ Recovering root left → mode_at s m ≡ Recovering root left
  pub opposite_up : (n p m q root left : ℕ) → Cable layout n p m q → is_marked (mark_at s n p) ≡ true → mode_at s n ≡ Recovering root left →
      is_up (mark_at s n p) ≡ is_down (mark_at s m q)
  pub opposite_down : (n p m q root left : ℕ) → Cable layout n p m q → is_marked (mark_at s n p) ≡ true → mode_at s n ≡ Recovering root left →
      is_down (mark_at s n p) ≡ is_up (mark_at s m q)
  pub root_below : (n root left : ℕ) → mode_at s n ≡ Recovering root left → root < layout.count
  pub left_some : (n root left : ℕ) → mode_at s n ≡ Recovering root left → 1 ≤ left
  pub left_few : (n root left : ℕ) → mode_at s n ≡ Recovering root left → left ≤ layout.count
  pub left_owner : (n root left : ℕ) → mode_at s n ≡ Recovering root left → s.owner ≡ (root + (layout.count - left)) % layout.count

pub loosen : (layout : Layout) (s : State) → Moded layout s → Loose layout s
loosen layout s moded = record {
  new_hand = moded.new_hand;
  new_unmarked = moded.new_unmarked;
  recovers_both = moded.recovers_both;
  marked_same = moded.marked_same;
  stays_inside = moded.stays_inside;
  opposite_up = moded.opposite_up;
  opposite_down = moded.opposite_down;
  root_below = moded.root_below;
  left_some = moded.left_some;
  left_few = λ n root left e. omega (arith, moded.left_few n root left e);
  left_owner = moded.left_owner;
}

-- Ticks of a mode

pub tick_new : (mode : Mode) → tick_mode mode ≡ New → mode ≡ New
unfolding tick_mode
tick_new New e = refl
tick_new (Recovering root zero) e = absurd (let z : ◌≡◌ {A = ℕ} 0 1 = cc in omega arith)
tick_new (Recovering root (suc zero)) e = absurd (let z : ◌≡◌ {A = ℕ} 0 1 = cc in omega arith)
tick_new (Recovering root (suc (suc left))) e = absurd (let z : ◌≡◌ {A = ℕ} 0 1 = cc in omega arith)
tick_new (Serving root) e = e

pub new_ticks : (mode : Mode) → mode ≡ New → tick_mode mode ≡ New
unfolding tick_mode
new_ticks mode e = ap tick_mode e

pub tick_recovering : (mode : Mode) (root left : ℕ) → tick_mode mode ≡ Recovering root left → (mode ≡ Recovering root (left + 1)) × (1 ≤ left)
unfolding tick_mode
tick_recovering New root left e = absurd (let z : ◌≡◌ {A = ℕ} 0 1 = cc in omega arith)
tick_recovering (Recovering r zero) root left e = absurd (let z : ◌≡◌ {A = ℕ} 0 1 = cc in omega arith)
tick_recovering (Recovering r (suc zero)) root left e = absurd (let z : ◌≡◌ {A = ℕ} 0 1 = cc in omega arith)
tick_recovering (Recovering r (suc (suc l))) root left e =
    let same : r ≡ root = cc in
    let fewer : suc l ≡ left = cc in
    let more : suc (suc l) ≡ left + 1 = omega arith in
    ((λ i. Recovering (same i) (more i)), omega arith)
tick_recovering (Serving r) root left e = absurd (let z : ◌≡◌ {A = ℕ} 0 1 = cc in omega arith)

pub recovering_ticks : (mode : Mode) (root left : ℕ) → mode ≡ Recovering root (left + 1) → 1 ≤ left → tick_mode mode ≡ Recovering root left
unfolding tick_mode
recovering_ticks mode root zero e some = absurd (omega arith)
recovering_ticks mode root (suc left) e some = ap tick_mode e ∙ ap (λ k. tick_mode (Recovering root k)) more
  where
    more : suc left + 1 ≡ suc (suc left)
    more = omega arith

-- A node that serves after the slot and did not just end its recovery served before.
pub tick_serving : (mode : Mode) (root : ℕ) → tick_mode mode ≡ Serving root → ends_recovery mode ≡ false → mode ≡ Serving root
unfolding tick_mode ends_recovery
tick_serving New root e goes_on = e
tick_serving (Recovering r zero) root e goes_on = absurd (let z : ◌≡◌ {A = ℕ} 0 1 = cc in omega arith)
tick_serving (Recovering r (suc zero)) root e goes_on = absurd (let z : ◌≡◌ {A = ℕ} 0 1 = cc in omega arith)
tick_serving (Recovering r (suc (suc left))) root e goes_on = absurd (let z : ◌≡◌ {A = ℕ} 0 1 = cc in omega arith)
tick_serving (Serving r) root e goes_on = e

pub tick_names : (mode : Mode) (r : ℕ) → NamesRoot mode r → NamesRoot (tick_mode mode) r
unfolding tick_mode
tick_names New r h = h
tick_names (Recovering root zero) r h = h
tick_names (Recovering root (suc zero)) r h = h
tick_names (Recovering root (suc (suc left))) r h = h
tick_names (Serving root) r h = h

-- A recovering owner speaks as member.
pub recovering_acts : (mode : Mode) (hand : Bool) (root left : ℕ) → mode ≡ Recovering root left → act_of mode hand ≡ Member
recovering_acts mode hand root left e = ap (λ m. act_of m hand) e

-- Owners passed

pub next_owner : (count root left : ℕ) → left + 1 ≤ count → ((root + (count - (left + 1))) % count + 1) % count ≡ (root + (count - left)) % count
next_owner count root left few = mod-add-mod (root + (count - (left + 1))) count 1 ∙ ap (λ k. k % count) one_more
  where
    one_more : root + (count - (left + 1)) + 1 ≡ root + (count - left)
    one_more = omega arith

-- Whoever was passed stays passed.
pub passed_ticks : (count : ℕ) → 1 ≤ count → (mode : Mode) (x : ℕ) → Passed count mode x → Passed count (tick_mode mode) x
unfolding tick_mode
passed_ticks count some New x h = h
passed_ticks count some (Recovering root zero) x h = rw h.2 (mod-lt (root + h.0) some)
passed_ticks count some (Recovering root (suc zero)) x h = rw h.2 (mod-lt (root + h.0) some)
passed_ticks count some (Recovering root (suc (suc left))) x h = (h.0, omega (arith, h.1), h.2)
passed_ticks count some (Serving root) x h = h

-- The owner of the slot is passed with it.
pub owner_passed : (count : ℕ) → 1 ≤ count → (root left owner : ℕ) → 1 ≤ left → left ≤ count → owner ≡ (root + (count - left)) % count →
    Passed count (tick_mode (Recovering root left)) owner
unfolding tick_mode
owner_passed count some root zero owner least few e = absurd (omega arith)
owner_passed count some root (suc zero) owner least few e = rw e (mod-lt (root + (count - 1)) some)
owner_passed count some root (suc (suc left)) owner least few e = (count - suc (suc left), omega arith, e)

-- Every node has a number of slots after the root's.
turn_of : (count root x : ℕ) → root < count → x < count → (i : ℕ) × (i < count) × (x ≡ (root + i) % count)
turn_of count root x root_below below = go (cases_lt x root)
  where
    go : (x < root) ⊎ (root ≤ x) → (i : ℕ) × (i < count) × (x ≡ (root + i) % count)
    go (inl lower) =
        let i = x + count - root in
        let round : root + i ≡ x + count = omega arith in
        (i, omega arith, sym (mod-eq_of_lt below) ∙ sym (add-mod_right x count) ∙ sym (ap (λ k. k % count) round))
    go (inr higher) =
        let i = x - root in
        let there : root + i ≡ x = omega arith in
        (i, omega arith, sym (mod-eq_of_lt below) ∙ sym (ap (λ k. k % count) there))

-- Nobody else is passed with a slot.
pub passed_cases : (count root left owner x : ℕ) → root < count → 1 ≤ left → left ≤ count → owner ≡ (root + (count - left)) % count →
    Passed count (tick_mode (Recovering root left)) x → Passed count (Recovering root left) x ⊎ (x ≡ owner)
unfolding tick_mode
passed_cases count root zero owner x root_below least few e h = absurd (omega arith)
passed_cases count root (suc zero) owner x root_below least few e h = go (turn_of count root x root_below h)
  where
    go : (i : ℕ) × (i < count) × (x ≡ (root + i) % count) → Passed count (Recovering root 1) x ⊎ (x ≡ owner)
    go (i, below, is) = which (cases_lt i (count - 1))
      where
        which : (i < count - 1) ⊎ (count - 1 ≤ i) → Passed count (Recovering root 1) x ⊎ (x ≡ owner)
        which (inl lower) = inl (i, lower, is)
        which (inr last) = let same : i ≡ count - 1 = omega arith in inr (is ∙ ap (λ k. (root + k) % count) same ∙ sym e)
passed_cases count root (suc (suc left)) owner x root_below least few e h = which (cases_lt h.0 (count - suc (suc left)))
  where
    which : (h.0 < count - suc (suc left)) ⊎ (count - suc (suc left) ≤ h.0) → Passed count (Recovering root (suc (suc left))) x ⊎ (x ≡ owner)
    which (inl lower) = inl (h.0, lower, h.2)
    which (inr last) = let same : h.0 ≡ count - suc (suc left) = omega (arith, h.1) in inr (h.2 ∙ ap (λ k. (root + k) % count) same ∙ sym e)

-- Steps round the wall by fewer than N lead to different nodes.
pub turns_differ : (count root i j : ℕ) → root < count → i < count → j < count → (root + i) % count ≡ (root + j) % count → i ≡ j
turns_differ count root i j root_below i-below j-below e = go (cases_lt (root + i) count) (cases_lt (root + j) count)
  where
    round : (k : ℕ) → k < count → count ≤ root + k → (root + k) % count ≡ root + k - count
    round k below past = mod-eq-sub-mod past ∙ mod-eq_of_lt (omega arith)

    go : (root + i < count) ⊎ (count ≤ root + i) → (root + j < count) ⊎ (count ≤ root + j) → i ≡ j
    go (inl a) (inl b) = omega (arith, sym (mod-eq_of_lt a) ∙ e ∙ mod-eq_of_lt b)
    go (inl a) (inr b) = omega (arith, sym (mod-eq_of_lt a) ∙ e ∙ round j j-below b)
    go (inr a) (inl b) = omega (arith, sym (round i i-below a) ∙ e ∙ mod-eq_of_lt b)
    go (inr a) (inr b) = omega (arith, sym (round i i-below a) ∙ e ∙ round j j-below b)

-- The owner of the slot was not passed before.
pub owner_unpassed : (count root left owner : ℕ) → root < count → 1 ≤ left → left ≤ count → owner ≡ (root + (count - left)) % count →
    Passed count (Recovering root left) owner → ⊥
owner_unpassed count root left owner root_below least few e h =
    let same : h.0 ≡ count - left = turns_differ count root h.0 (count - left) root_below (omega (arith, h.1)) (omega arith) (sym h.2 ∙ e) in
    omega (arith, h.1)

module _ (layout : Layout) (sound : Sound layout) (s after : State) (cell : ℕ → Cell) (ticked : Ticked layout s after cell) where
  was : (n root left : ℕ) → mode_at after n ≡ Recovering root left → (mode_at s n ≡ Recovering root (left + 1)) × (1 ≤ left)
  was n root left e = tick_recovering (mode_at s n) root left (sym (ticked.mode_is n) ∙ e)

  stays : (n root left : ℕ) → 1 ≤ left → mode_at s n ≡ Recovering root (left + 1) → mode_at after n ≡ Recovering root left
  stays n root left some e = ticked.mode_is n ∙ recovering_ticks (mode_at s n) root left e some

  live_was : (n p : ℕ) → live_at after n p ≡ true → live_at s n p ≡ true
  live_was n p on = sym (live_kept layout s after cell ticked n p) ∙ on

  marked_was : (n p : ℕ) → is_marked (mark_at after n p) ≡ true → is_marked (mark_at s n p) ≡ true
  marked_was n p on = sym (ap is_marked (mark_kept layout s after cell ticked n p)) ∙ on

  pub moded_ticked : Loose layout s → Moded layout after
  moded_ticked loose = record {
    new_hand = λ n below e. ticked.hand_is n ∙ loose.new_hand n below (tick_new (mode_at s n) (sym (ticked.mode_is n) ∙ e));
    new_unmarked = λ n p e.
        ap is_marked (mark_kept layout s after cell ticked n p) ∙ loose.new_unmarked n p (tick_new (mode_at s n) (sym (ticked.mode_is n) ∙ e));
    recovers_both = λ n p m q root left cable on e.
        let before = was n root left e in
        stays m root left before.1 (loose.recovers_both n p m q root (left + 1) cable (live_was n p on) before.0);
    marked_same = λ n p m q cable on marked.
        ticked.mode_is n ∙ ap tick_mode (loose.marked_same n p m q cable (live_was n p on) (marked_was n p marked)) ∙ sym (ticked.mode_is m);
    stays_inside = λ n p m q root left cable marked e.
        let before = was n root left e in
        stays m root left before.1 (loose.stays_inside n p m q root (left + 1) cable (marked_was n p marked) before.0);
    opposite_up = λ n p m q root left cable marked e.
        ap is_up (mark_kept layout s after cell ticked n p) ∙
        loose.opposite_up n p m q root (left + 1) cable (marked_was n p marked) (was n root left e).0 ∙
        sym (ap is_down (mark_kept layout s after cell ticked m q));
    opposite_down = λ n p m q root left cable marked e.
        ap is_down (mark_kept layout s after cell ticked n p) ∙
        loose.opposite_down n p m q root (left + 1) cable (marked_was n p marked) (was n root left e).0 ∙
        sym (ap is_up (mark_kept layout s after cell ticked m q));
    root_below = λ n root left e. loose.root_below n root (left + 1) (was n root left e).0;
    left_some = λ n root left e. (was n root left e).1;
    left_few = λ n root left e. loose.left_few n root (left + 1) (was n root left e).0;
    left_owner = λ n root left e.
        let few : left + 1 ≤ layout.count = loose.left_few n root (left + 1) (was n root left e).0 in
        ticked.owner_is ∙
        ap (λ x. (x + 1) % layout.count) (loose.left_owner n root (left + 1) (was n root left e).0) ∙
        next_owner layout.count root left few;
  }
