-- The five calls as one relation, and runs of them.
use Rattle.std.specs.Prelude.{◌≡◌, ℕ, ◌<◌, ◌≤◌, true, List, [], ◌∷◌, length, MatchOption}
use Rattle.std.specs.List.{AllByRecursion}
use Rattle.wiring.specs.Layout.{Layout}
use Rattle.rules.specs.declared.Outcome.{Outcome}
use Rattle.rules.specs.declared.Refusal.{Refusal}
use Rattle.rules.specs.declared.Refusal.TheVariants.{TrayTooSmall}
use Rattle.rules.specs.declared.SlotAnswer.{SlotAnswer}
use Rattle.rules.specs.declared.StepCounts.{StepCounts}
use Rattle.rules.specs.Ports.{Ports, has, some_port}
use Rattle.rules.specs.State.{State}
use Rattle.rules.specs.Slot.{slot}
use Rattle.rules.specs.Calls.{cut_refused, after_cut, hand_refused, after_hand, post_refused, after_post}
use Rattle.rules.specs.Step.{step_with, after_step}

-- A call with any arguments, good or bad. A step is given the free places of its tray.
pub data Call : Type 0 where
  cut : ℕ → ℕ → Call
  hand : ℕ → Call
  slot_call : Call
  post : ℕ → ℕ → ℕ → Call
  step : ℕ → Call

-- What a call answers. A step's reply also says what it put into the tray and which packets, by
-- number, crossed a cable.
pub data Reply : Type 0 where
  refused : Refusal → Reply
  done : Reply
  slotted : SlotAnswer → Reply
  numbered : ℕ → Reply
  stepped : StepCounts → List Outcome → List ℕ → Reply

-- Each pick lies in its offer, where anything was offered.
abbrev pub InOffer : Ports × ℕ → Type 0
InOffer ask = some_port ask.0 ≡ true → has ask.0 ask.1 ≡ true

-- A step that was not refused, by some picks in their offers.
pub record Steps (layout : Layout) (s : State) (counts : StepCounts) (outcomes : List Outcome) (crossed : List ℕ) (asked : List (Ports × ℕ)) (after : State) : Type 0 where
  pub picks : List ℕ
  pub counts_are : counts ≡ (step_with layout s picks).counts
  pub outcomes_are : outcomes ≡ (step_with layout s picks).outcomes
  pub crossed_are : crossed ≡ (step_with layout s picks).crossed
  pub asked_are : asked ≡ (step_with layout s picks).asked
  pub after_is : after ≡ after_step s (step_with layout s picks)
  pub in_offers : AllByRecursion InOffer asked

-- What one call answers and leaves behind: a refusal leaves everything as it stood.
pub data Does (layout : Layout) (s : State) : Call → Reply → State → Type 0 where
  cuts : {n p : ℕ} {reply : Reply} {after : State} →
      MatchOption (cut_refused layout s n p)
      ((reply ≡ done) × (after ≡ after_cut layout s n p))
      (λ reason. (reply ≡ refused reason) × (after ≡ s)) →
      Does layout s (cut n p) reply after
  hands : {n : ℕ} {reply : Reply} {after : State} →
      MatchOption (hand_refused layout n)
      ((reply ≡ done) × (after ≡ after_hand s n))
      (λ reason. (reply ≡ refused reason) × (after ≡ s)) →
      Does layout s (hand n) reply after
  slots : {reply : Reply} {after : State} →
      reply ≡ slotted (slot layout s).answer →
      after ≡ (slot layout s).after →
      Does layout s slot_call reply after
  posts : {source destination word : ℕ} {reply : Reply} {after : State} →
      MatchOption (post_refused layout s source destination)
      ((reply ≡ numbered after.last) × (after ≡ after_post s source destination word))
      (λ reason. (reply ≡ refused reason) × (after ≡ s)) →
      Does layout s (post source destination word) reply after
  step_refused : {free : ℕ} {reply : Reply} {after : State} →
      free < length s.packets →
      reply ≡ refused TrayTooSmall →
      after ≡ s →
      Does layout s (step free) reply after
  steps : {free : ℕ} {counts : StepCounts} {outcomes : List Outcome} {crossed : List ℕ} {asked : List (Ports × ℕ)} {reply : Reply} {after : State} →
      length s.packets ≤ free →
      Steps layout s counts outcomes crossed asked after →
      reply ≡ stepped counts outcomes crossed →
      Does layout s (step free) reply after

-- A call with its reply.
pub record Event : Type 0 where
  pub call : Call
  pub reply : Reply

-- A run: calls one after another, refused ones included.
pub data Run (layout : Layout) : State → List Event → State → Type 0 where
  ends : {s : State} → Run layout s [] s
  goes : {s next after : State} {call : Call} {reply : Reply} {log : List Event} →
      Does layout s call reply next →
      Run layout next log after →
      Run layout s (record { call = call; reply = reply } ∷ log) after
