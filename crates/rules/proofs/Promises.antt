-- The promise of a state that keeps the invariant, from its parts.
use Rattle.std.proofs.Common.{ℕ, ◌-◌, ◌*◌, ◌≤◌, List, [], ◌∷◌, length, sym, subst}
use Rattle.wiring.specs.Layout.{Layout, Sound}
use Rattle.rules.specs.State.{State}
use Rattle.rules.specs.Runs.{Call, step, Reply, Does, step_refused, steps, Event, Run, goes}
use Rattle.rules.specs.Promise.{Calm, Quiet, Busy, slots_in, Promise}
use Rattle.rules.proofs.Invariant.{Invariant}
use Rattle.rules.proofs.Rank.{no_circle}
use Rattle.rules.proofs.Entries.{entry_if_joined, joined_if_entry}
use Rattle.rules.proofs.Progress.{progress_step}
use Rattle.rules.proofs.CalmRuns.{calm_stays}
use Rattle.rules.proofs.Hops.{hops}
use Rattle.rules.proofs.Clearing.{clearing}
use Rattle.rules.proofs.Fates.{once, delivered_if_joined, returned_if_not}

module _ (layout : Layout) (sound : Sound layout)
    (keeps : (s next : State) (call : Call) (reply : Reply) → Invariant layout s → Does layout s call reply next → Invariant layout next) where
  busy_step : (now next : State) (free : ℕ) (reply : Reply) → Invariant layout now → Calm layout now → 1 ≤ length now.packets →
      Does layout now (step free) reply next → Busy reply
  busy_step now next free reply inv calm some (step_refused few e f) = subst Busy (sym e) tt
  busy_step now next free reply inv calm some (steps {counts = counts} {outcomes = outcomes} {crossed = crossed} {asked = asked} few how e) =
      subst Busy (sym e) (progress_step layout sound now next counts outcomes crossed asked inv calm some how)

  busy_run : (now next : State) (free : ℕ) (reply : Reply) → Invariant layout now → Calm layout now → 1 ≤ length now.packets →
      Run layout now (record { call = step free; reply = reply } ∷ []) next → Busy reply
  busy_run now next free reply inv calm some (goes {next = after} does run) = busy_step now after free reply inv calm some does

  pub promise : (s : State) → Invariant layout s →
      ((log : List Event) (end : State) → Run layout s log end → Quiet log → 3 * layout.count - 2 ≤ slots_in log → Calm layout end) →
      Promise layout s
  promise s inv calm_returns = record {
    no_circle = no_circle layout sound s inv;
    entry_if_joined = entry_if_joined layout sound s inv;
    joined_if_entry = joined_if_entry layout sound s inv;
    hops = hops layout sound keeps s inv;
    progress = λ calm before now next free reply run quiet some one.
        let still = calm_stays layout sound keeps s now before inv calm run quiet in
        busy_run now next free reply still.2 still.1 some one;
    calm_returns = calm_returns;
    clearing = clearing layout sound keeps s inv;
    once = once layout sound keeps s inv;
    delivered_if_joined = delivered_if_joined layout sound keeps s inv;
    returned_if_not = returned_if_not layout sound keeps s inv;
  }
