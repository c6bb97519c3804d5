-- Calm returns: a quiet run with at least 3N - 2 slots ends calm. A hand that is up goes down within
-- 2N - 1 slots: a recovery ends within N - 1, and then at the latest the node's own slot comes
-- within N. Once all hands are down there is no root any more, and every recovery ends within N - 1.
use Rattle.std.proofs.Common.{◌≡◌, ℕ, zero, suc, ◌+◌, ◌-◌, ◌*◌, ◌%◌, ◌<◌, ◌≤◌, Bool, true, false, cond, ◌&&◌, ◌⊎◌, List, Some, None, Option, sym, refl, ap, ◌∙◌, subst, subst₂, inl, inr, mod-eq_of_lt, arith, MatchOption}
use native.Mathlib.Nat.{mod_self}
use Rattle.std.proofs.lemmas.Bool.{both_ways, and_cases, cases_lt, cases_Bool}
use Rattle.wiring.specs.Layout.{Layout, Sound}
use Rattle.rules.specs.declared.Act.TheVariants.{Root}
use Rattle.rules.specs.declared.Mode.{Mode}
use Rattle.rules.specs.declared.Mode.TheVariants.{New, Recovering, Serving}
use Rattle.rules.specs.declared.Refusal.{Refusal}
use Rattle.rules.specs.declared.Refusal.TheVariants.{TrayTooSmall}
use Rattle.rules.specs.State.{State}
use Rattle.rules.specs.Slot.{act_of, tick_mode, slot}
use Rattle.rules.specs.Calls.{cut_refused, after_cut, hand_refused, after_hand, post_refused, after_post}
use Rattle.rules.specs.Step.{after_step}
use Rattle.rules.specs.Runs.{Call, cut, hand, slot_call, post, step, Reply, refused, done, numbered, Does, cuts, hands, slots, posts, step_refused, steps, Event, Run, ends, goes}
use Rattle.rules.specs.Promise.{Recovers, Calm, accepted, disturbs, Quiet, is_slot, slots_in}
use Rattle.rules.proofs.Invariant.{mode_at, hand_at, Shaped, Moded, Invariant}
use Rattle.rules.proofs.SlotReads.{Enlisted, Passes, act_now, slot_modes, root_modes_owner, slot_owner}

-- What differs in its constructor is not equal.
clash : {A : Type 0} → ◌≡◌ {A = ℕ} 0 1 → A
clash e = absurd (omega arith)

-- Waiting for a slot

-- The slot of node n comes within h slots, its own included.
abbrev Comes : ℕ → ℕ → ℕ → ℕ → Type 0
Comes count owner n h = (owner ≤ n → n + 1 ≤ owner + h) × (n < owner → n + count + 1 ≤ owner + h)

comes_soon : (count owner n h : ℕ) → n < count → count ≤ h → Comes count owner n h
comes_soon count owner n h inside long = omega arith

comes_never : (count owner n : ℕ) → owner < count → Comes count owner n 0 → ⊥
comes_never count owner n below comes = go (cases_lt n owner)
  where
    go : (n < owner) ⊎ (owner ≤ n) → ⊥
    go (inl less) = omega (arith, comes.1 less)
    go (inr more) = omega (arith, comes.0 more)

comes_nearer : (count owner n h : ℕ) → owner < count → n < count → (n ≡ owner → ⊥) → Comes count owner n (suc h) →
    Comes count ((owner + 1) % count) n h
comes_nearer count owner n h below inside other comes = go (cases_lt (owner + 1) count)
  where
    go : (owner + 1 < count) ⊎ (count ≤ owner + 1) → Comes count ((owner + 1) % count) n h
    go (inl less) = subst (λ (o : ℕ). Comes count o n h) (sym (mod-eq_of_lt less)) (omega arith)
    go (inr last) =
        let full : owner + 1 ≡ count = omega arith in
        let start : (owner + 1) % count ≡ 0 = rw full (mod_self count) in
        subst (λ (o : ℕ). Comes count o n h) (sym start) (omega arith)

-- A node's hand goes down within h slots if it has this mode.
abbrev Lowers : ℕ → ℕ → ℕ → Mode → ℕ → Type 0
Lowers count owner n New h = Comes count owner n h
Lowers count owner n (Recovering root left) h = left + count ≤ h
Lowers count owner n (Serving root) h = Comes count owner n h

-- One slot later, if it is not the node's own slot as root.
lowers_nearer : (count owner n h : ℕ) (mode : Mode) → owner < count → n < count →
    ((root left : ℕ) → mode ≡ Recovering root left → 1 ≤ left) → (n ≡ owner → act_of mode true ≡ Root → ⊥) →
    Lowers count owner n mode (suc h) → Lowers count ((owner + 1) % count) n (tick_mode mode) h
unfolding tick_mode
lowers_nearer count owner n h New below inside some other lowers = comes_nearer count owner n h below inside (λ e. other e refl) lowers
lowers_nearer count owner n h (Recovering root zero) below inside some other lowers = absurd (omega (arith, some root 0 refl))
lowers_nearer count owner n h (Recovering root (suc zero)) below inside some other lowers = comes_soon count ((owner + 1) % count) n h inside (omega arith)
lowers_nearer count owner n h (Recovering root (suc (suc left))) below inside some other lowers = omega arith
lowers_nearer count owner n h (Serving root) below inside some other lowers = comes_nearer count owner n h below inside (λ e. other e refl) lowers

-- No hand is up at 0 slots.
lowers_never : (count owner n : ℕ) (mode : Mode) → owner < count → Lowers count owner n mode 0 → ⊥
lowers_never count owner n New below lowers = comes_never count owner n below lowers
lowers_never count owner n (Recovering root left) below lowers = omega arith
lowers_never count owner n (Serving root) below lowers = comes_never count owner n below lowers

-- A hand goes down within 2N - 1 slots.
lowers_soon : (count owner n : ℕ) (mode : Mode) → n < count → ((root left : ℕ) → mode ≡ Recovering root left → left + 1 ≤ count) →
    Lowers count owner n mode (2 * count - 1)
lowers_soon count owner n New inside few = comes_soon count owner n (2 * count - 1) inside (omega arith)
lowers_soon count owner n (Recovering root left) inside few = omega (arith, few root left refl)
lowers_soon count owner n (Serving root) inside few = comes_soon count owner n (2 * count - 1) inside (omega arith)

-- One slot later a recovery has one slot fewer left.
left_nearer : (mode : Mode) (root left : ℕ) → tick_mode mode ≡ Recovering root left → mode ≡ Recovering root (suc left)
unfolding tick_mode
left_nearer New root left e = clash (cc)
left_nearer (Recovering r zero) root left e = clash (cc)
left_nearer (Recovering r (suc zero)) root left e = clash (cc)
left_nearer (Recovering r (suc (suc l))) root left e = cc
left_nearer (Serving r) root left e = clash (cc)

-- Only a node with its hand up becomes root.
root_hand : (mode : Mode) (up : Bool) → act_of mode up ≡ Root → up ≡ true
root_hand New true e = refl
root_hand New false e = clash (cc)
root_hand (Recovering root left) up e = clash (cc)
root_hand (Serving root) true e = refl
root_hand (Serving root) false e = clash (cc)

-- A state that is calm within so many slots

-- Every hand goes down within h slots.
abbrev HandsWithin : Layout → State → ℕ → Type 0
HandsWithin layout s h = (n : ℕ) → n < layout.count → hand_at s n ≡ true → Lowers layout.count s.owner n (mode_at s n) h

abbrev AllDown : Layout → State → Type 0
AllDown layout s = (n : ℕ) → n < layout.count → hand_at s n ≡ false

-- Every recovery ends within k slots.
abbrev LeftsWithin : Layout → State → ℕ → Type 0
LeftsWithin layout s k = (n root left : ℕ) → n < layout.count → mode_at s n ≡ Recovering root left → left ≤ k

-- All hands go down and then every recovery ends, within k slots.
abbrev Within : Layout → State → ℕ → Type 0
Within layout s k = ((h : ℕ) × (h + (layout.count - 1) ≤ k) × HandsWithin layout s h) ⊎ (AllDown layout s × LeftsWithin layout s k)

module _ (layout : Layout) where
  within_none : (s : State) → s.owner < layout.count → HandsWithin layout s 0 → AllDown layout s
  within_none s owner lowers n below = go (cases_Bool (hand_at s n))
    where
      go : (hand_at s n ≡ true) ⊎ (hand_at s n ≡ false) → hand_at s n ≡ false
      go (inl up) = absurd (lowers_never layout.count s.owner n (mode_at s n) owner (lowers n below up))
      go (inr down) = down

  -- At first

  first_within : (s : State) → Moded layout s → Within layout s (3 * layout.count - 2)
  first_within s moded =
      inl (2 * layout.count - 1, omega arith, λ n below up. lowers_soon layout.count s.owner n (mode_at s n) below (moded.left_few n))

  -- At last

  within_calm : (s : State) → Invariant layout s → Within layout s 0 → Calm layout s
  within_calm s inv within = calm (settled within)
    where
      settled : Within layout s 0 → AllDown layout s × LeftsWithin layout s 0
      settled (inl falling) =
          let now : falling.0 ≡ 0 = omega arith in
          (within_none s inv.shaped.owner_below (rw now at falling.2), λ n root left below e. omega (arith, inv.moded.left_few n root left e))
      settled (inr at_rest) = at_rest

      calm : AllDown layout s × LeftsWithin layout s 0 → Calm layout s
      calm at_rest = record { hands_down = at_rest.0; none_recovers = λ n below. none n below (mode_at s n) refl }
        where
          none : (n : ℕ) → n < layout.count → (mode : Mode) → mode_at s n ≡ mode → Recovers mode → ⊥
          none n below New e recovers = recovers
          none n below (Recovering root left) e recovers = omega (arith, inv.moded.left_some n root left e, at_rest.1 n root left below e)
          none n below (Serving root) e recovers = recovers

  -- A slot

  hands_nearer : (s : State) (h : ℕ) → Shaped layout s → Moded layout s → HandsWithin layout s (suc h) → HandsWithin layout (slot layout s).after h
  hands_nearer s h shaped moded lowers n below up = go (slot_modes layout s shaped n below)
    where
      after : State
      after = (slot layout s).after

      go : Enlisted layout s after n ⊎ Passes s after n → Lowers layout.count after.owner n (mode_at after n) h
      go (inl joins) = absurd (both_ways (hand_at after n) joins.hand_down up)
      go (inr passes) =
          subst₂ (λ (owner : ℕ) (mode : Mode). Lowers layout.count owner n mode h) (sym (slot_owner layout s)) (sym passes.mode_ticked)
          (lowers_nearer layout.count s.owner n h (mode_at s n) shaped.owner_below below (moded.left_some n) own (lowers n below was))
        where
          was : hand_at s n ≡ true
          was = sym passes.hand_same ∙ up

          own : n ≡ s.owner → act_of (mode_at s n) true ≡ Root → ⊥
          own e root =
              let owns : hand_at s s.owner ≡ true = rw e at was in
              let acts : act_now s ≡ Root = ap (act_of (mode_at s s.owner)) owns ∙ (rw e at root) in
              both_ways (hand_at after n) (rw e (root_modes_owner layout s shaped acts).hand_down) up

  -- With all hands down nobody becomes root, so a slot only ticks.
  down_passes : (s : State) → Shaped layout s → AllDown layout s → (n : ℕ) → n < layout.count → Passes s (slot layout s).after n
  down_passes s shaped down n below = go (slot_modes layout s shaped n below)
    where
      go : Enlisted layout s (slot layout s).after n ⊎ Passes s (slot layout s).after n → Passes s (slot layout s).after n
      go (inl joins) =
          absurd (both_ways (hand_at s s.owner) (down s.owner shaped.owner_below) (root_hand (mode_at s s.owner) (hand_at s s.owner) joins.by_root))
      go (inr passes) = passes

  down_nearer : (s : State) (k : ℕ) → Shaped layout s → AllDown layout s → LeftsWithin layout s k → Within layout (slot layout s).after (k - 1)
  down_nearer s k shaped down lefts = inr (still, fewer)
    where
      still : AllDown layout (slot layout s).after
      still n below = (down_passes s shaped down n below).hand_same ∙ down n below

      fewer : LeftsWithin layout (slot layout s).after (k - 1)
      fewer n root left below e =
          let was = left_nearer (mode_at s n) root left (sym (down_passes s shaped down n below).mode_ticked ∙ e) in
          omega (arith, lefts n root (suc left) below was)

  slot_nearer : (s : State) (k : ℕ) → Shaped layout s → Moded layout s → Within layout s k → Within layout (slot layout s).after (k - 1)
  slot_nearer s k shaped moded (inl falling) = go falling.0 falling.1 falling.2
    where
      go : (h : ℕ) → h + (layout.count - 1) ≤ k → HandsWithin layout s h → Within layout (slot layout s).after (k - 1)
      go zero long lowers =
          down_nearer s k shaped (within_none s shaped.owner_below lowers) (λ n root left below e. omega (arith, moded.left_few n root left e))
      go (suc h) long lowers = inl (h, omega arith, hands_nearer s h shaped moded lowers)
  slot_nearer s k shaped moded (inr settled) = down_nearer s k shaped settled.0 settled.1

  -- Any other call

  -- What is left after an event.
  less : ℕ → Call → Reply → ℕ
  less k call reply = k - cond (is_slot (record { call = call; reply = reply })) 1 0

  not_slot : (after : State) (k : ℕ) (call : Call) (reply : Reply) → is_slot (record { call = call; reply = reply }) ≡ false →
      Within layout after k → Within layout after (less k call reply)
  unfolding less
  not_slot after k call reply e within =
      let same : k ≡ k - cond (is_slot (record { call = call; reply = reply })) 1 0 = rw e (omega arith) in
      subst (λ (j : ℕ). Within layout after j) same within

  not_accepted : (call : Call) (reply : Reply) → disturbs call ≡ true → accepted reply ≡ true → (disturbs call && accepted reply) ≡ false → ⊥
  not_accepted call reply does taken e = go (and_cases (disturbs call) (accepted reply) e)
    where
      go : (disturbs call ≡ false) ⊎ (accepted reply ≡ false) → ⊥
      go (inl no_call) = both_ways (disturbs call) no_call does
      go (inr no-reply) = both_ways (accepted reply) no-reply taken

  -- A call that was refused, or a post or a step, leaves nodes and owner as they were.
  refused_within : (s after : State) (k : ℕ) (call : Call) (reply : Reply) (reason : Refusal) → reply ≡ refused reason → after ≡ s →
      Within layout s k → Within layout after (less k call reply)
  refused_within s after k call reply reason answer same within =
      not_slot after k call reply (ap (λ (r : Reply). is_slot (record { call = call; reply = r })) answer) (rw same within)

  call_within : {s after : State} {call : Call} {reply : Reply} (k : ℕ) → Invariant layout s → Does layout s call reply after →
      (disturbs call && accepted reply) ≡ false → Within layout s k → Within layout after (less k call reply)
  unfolding less after_post after_step
  call_within {s} k inv (cuts {n = n} {p = p} {reply = reply} {after = after} does) quiet within = go (cut_refused layout s n p) does
    where
      go : (r : Option Refusal) → MatchOption r ((reply ≡ done) × (after ≡ after_cut layout s n p)) (λ reason. (reply ≡ refused reason) × (after ≡ s)) →
          Within layout after (less k (cut n p) reply)
      go None answer = absurd (not_accepted (cut n p) reply refl (ap accepted answer.0) quiet)
      go (Some reason) answer = refused_within s after k (cut n p) reply reason answer.0 answer.1 within
  call_within {s} k inv (hands {n = n} {reply = reply} {after = after} does) quiet within = go (hand_refused layout n) does
    where
      go : (r : Option Refusal) → MatchOption r ((reply ≡ done) × (after ≡ after_hand s n)) (λ reason. (reply ≡ refused reason) × (after ≡ s)) →
          Within layout after (less k (hand n) reply)
      go None answer = absurd (not_accepted (hand n) reply refl (ap accepted answer.0) quiet)
      go (Some reason) answer = refused_within s after k (hand n) reply reason answer.0 answer.1 within
  call_within {s} k inv (slots {reply = reply} {after = after} answer same) quiet within =
      let one : k - 1 ≡ less k slot_call reply = rw (answer, less) in
      rw same (subst (λ (j : ℕ). Within layout (slot layout s).after j) one (slot_nearer s k inv.shaped inv.moded within))
  call_within {s} k inv (posts {source = source} {destination = destination} {word = word} {reply = reply} {after = after} does) quiet within =
      go (post_refused layout s source destination) does
    where
      this : Call
      this = post source destination word

      go : (r : Option Refusal) → MatchOption r ((reply ≡ numbered after.last) × (after ≡ after_post s source destination word)) (λ reason. (reply ≡ refused reason) × (after ≡ s)) →
          Within layout after (less k this reply)
      go None answer =
          not_slot after k this reply (ap (λ (r : Reply). is_slot (record { call = this; reply = r })) answer.0) (rw answer.1 within)
      go (Some reason) answer = refused_within s after k this reply reason answer.0 answer.1 within
  call_within {s} k inv (step_refused {free = free} {reply = reply} {after = after} small answer same) quiet within =
      refused_within s after k (step free) reply TrayTooSmall answer same within
  call_within {s} k inv (steps {free = free} {reply = reply} {after = after} large does answer) quiet within =
      not_slot after k (step free) reply (ap (λ (r : Reply). is_slot (record { call = step free; reply = r })) answer) (rw does.after_is within)

  -- A run keeps what each call keeps

  module _ (keeps : (s s' : State) (call : Call) (reply : Reply) → Invariant layout s → Does layout s call reply s' → Invariant layout s') where
    pub run_keeps : {s end : State} {log : List Event} → Run layout s log end → Invariant layout s → Invariant layout end
    run_keeps ends inv = inv
    run_keeps (goes {s = s} {next = next} {call = call} {reply = reply} does rest) inv = run_keeps rest (keeps s next call reply inv does)

    run_within : {s end : State} {log : List Event} → Run layout s log end → (k : ℕ) → Invariant layout s → Quiet log → Within layout s k →
        Within layout end (k - slots_in log)
    run_within {s} ends k inv quiet within =
        let same : k ≡ k - 0 = omega arith in
        subst (λ (j : ℕ). Within layout s j) same within
    run_within (goes {s = s} {next = next} {after = after} {call = call} {reply = reply} {log = log} does rest) k inv quiet within =
        let later = run_within rest (less k call reply) (keeps s next call reply inv does) quiet.1 (call_within k inv does quiet.0 within) in
        let same : less k call reply - slots_in log ≡ k - (cond (is_slot (record { call = call; reply = reply })) 1 0 + slots_in log) = unfold less in omega arith in
        subst (λ (j : ℕ). Within layout after j) same later

pub calm_returns : (layout : Layout) (sound : Sound layout)
    (keeps : (s s' : State) (call : Call) (reply : Reply) → Invariant layout s → Does layout s call reply s' → Invariant layout s')
    (s : State) → Invariant layout s → (log : List Event) (end : State) → Run layout s log end → Quiet log →
    3 * layout.count - 2 ≤ slots_in log → Calm layout end
calm_returns layout sound keeps s inv log end run quiet many =
    let within = run_within layout keeps run (3 * layout.count - 2) inv quiet (first_within layout s inv.moded) in
    let none : (3 * layout.count - 2) - slots_in log ≡ 0 = omega arith in
    within_calm layout end (run_keeps layout keeps run inv) (rw none at within)
