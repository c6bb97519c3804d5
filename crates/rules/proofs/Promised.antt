-- Every call keeps the invariant, power-up has it, and a state with the invariant keeps the promise.
use Rattle.std.proofs.Common.{◌≡◌, List, Some, None, Option, sym, refl, subst, MatchOption}
use Rattle.wiring.specs.Layout.{Layout, Sound}
use Rattle.rules.specs.declared.Refusal.{Refusal}
use Rattle.rules.specs.State.{State, power_up}
use Rattle.rules.specs.Calls.{cut_refused, after_cut, hand_refused, after_hand, post_refused, after_post}
use Rattle.rules.specs.Runs.{Call, Reply, refused, done, numbered, Does, cuts, hands, slots, posts, step_refused, steps, Event, Run}
use Rattle.rules.specs.Promise.{Promised}
use Rattle.rules.proofs.Invariant.{Invariant}
use Rattle.rules.proofs.PowerUp.{power_up_keeps}
use Rattle.rules.proofs.Raising.{hand_keeps}
use Rattle.rules.proofs.Cutting.{cut_keeps}
use Rattle.rules.proofs.SlotKeeps.{slot_keeps}
use Rattle.rules.proofs.StepKeeps.{step_keeps, post_keeps}
use Rattle.rules.proofs.CalmReturns.{run_keeps, calm_returns}
use Rattle.rules.proofs.Promises.{promise}

module _ (layout : Layout) (sound : Sound layout) where
  -- A call that is refused, or else leaves a state that has the invariant.
  answered : (s next after : State) (reply answer : Reply) (verdict : Option Refusal) → Invariant layout s →
      (verdict ≡ None → Invariant layout after) →
      MatchOption verdict ((reply ≡ answer) × (next ≡ after)) (λ reason. (reply ≡ refused reason) × (next ≡ s)) → Invariant layout next
  answered s next after reply answer None inv accepted case = subst (Invariant layout) (sym case.1) (accepted refl)
  answered s next after reply answer (Some reason) inv accepted case = subst (Invariant layout) (sym case.1) inv

  pub keeps : (s next : State) (call : Call) (reply : Reply) → Invariant layout s → Does layout s call reply next → Invariant layout next
  keeps s next call reply inv (cuts {n = n} {p = p} case) =
      answered s next (after_cut layout s n p) reply done (cut_refused layout s n p) inv (cut_keeps layout sound s n p inv) case
  keeps s next call reply inv (hands {n = n} case) =
      answered s next (after_hand s n) reply done (hand_refused layout n) inv (hand_keeps layout sound s n inv) case
  keeps s next call reply inv (slots answer same) = subst (Invariant layout) (sym same) (slot_keeps layout sound s inv)
  keeps s next call reply inv (posts {source = source} {destination = destination} {word = word} case) =
      answered s next (after_post s source destination word) reply (numbered next.last) (post_refused layout s source destination) inv
      (post_keeps layout sound s source destination word inv) case
  keeps s next call reply inv (step_refused few answer same) = subst (Invariant layout) (sym same) inv
  keeps s next call reply inv (steps {counts = counts} {outcomes = outcomes} {crossed = crossed} {asked = asked} room step answer) =
      step_keeps layout sound s next counts outcomes crossed asked inv step

  -- Every state that a run from power-up reaches has the invariant.
  pub reached_keeps : {log : List Event} {reached : State} → Run layout (power_up layout) log reached → Invariant layout reached
  reached_keeps run = run_keeps layout keeps run (power_up_keeps layout sound)

-- The promise holds of every state that a run of calls reaches.
pub promised : (layout : Layout) (sound : Sound layout) → Promised layout (power_up layout)
promised layout sound log reached run =
    let invariant = reached_keeps layout sound run in
    promise layout sound (keeps layout sound) reached invariant (calm_returns layout sound (keeps layout sound) reached invariant)
