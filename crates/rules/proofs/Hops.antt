-- Hops: a packet delivered elsewhere crosses just as many cables as its node's entry counted.
use Rattle.std.proofs.Common.{◌≡◌, ℕ, ◌<◌, List, sym, refl, ap, ◌∙◌, subst, inl, inr, arith}
use Rattle.std.specs.List.{ContainsAt as Has}
use Rattle.wiring.specs.Layout.{Layout, Sound}
use Rattle.rules.specs.declared.Ending.TheVariants.{Delivered, Returned}
use Rattle.rules.specs.declared.Packet.{Packet}
use Rattle.rules.specs.Ports.{Ports}
use Rattle.rules.specs.State.{State, entry, entry_of}
use Rattle.rules.specs.Runs.{Call, Reply, Does, Event, Run}
use Rattle.rules.specs.Promise.{Calm, Quiet, outcomes_in, crossings, ended}
use Rattle.rules.proofs.Invariant.{Invariant}
use Rattle.rules.proofs.CalmRuns.{calm_stays}
use Rattle.rules.proofs.Flight.{Led, Flight, flies, lands, turns_back, count_in, flight, outcome_counts, sole_outcome}

module _ (layout : Layout) (sound : Sound layout)
    (keeps : (s next : State) (call : Call) (reply : Reply) → Invariant layout s → Does layout s call reply next → Invariant layout next) where
  hops_on : (now end : State) (rest : List Event) → Invariant layout now → Calm layout now → Run layout now rest end → Quiet rest →
      (x : Packet) (y : ℕ) → Has now.packets x → (x.node ≡ y → ⊥) → Has (outcomes_in rest) (ended Delivered y x) →
      (ports : Ports) × (entry_of now.nodes x.node y ≡ entry ports (crossings x.number rest)) × (crossings x.number rest < layout.count)
  hops_on now end rest inv calm run quiet x y has away out = go (flight layout sound keeps now end rest inv calm run quiet x has)
    where
      Goal : Type 0
      Goal = (ports : Ports) × (entry_of now.nodes x.node y ≡ entry ports (crossings x.number rest)) × (crossings x.number rest < layout.count)

      at_entry : x.destination ≡ y → crossings x.number rest ≡ count_in (entry_of now.nodes x.node x.destination) → Led now.nodes x → Goal
      at_entry there count (inl home) = absurd (away (home ∙ there))
      at_entry there count (inr (ports, k, e)) =
          let same : k ≡ crossings x.number rest = sym (count ∙ ap count_in e) in (
            ports,
            subst (λ z. entry_of now.nodes x.node z ≡ entry ports (crossings x.number rest)) there (e ∙ ap (entry ports) same),
            omega (arith, same, inv.routed.entry_count x.node x.destination ports k e),
          )

      go : Flight now.nodes x rest end → Goal
      go (flies z still none) = absurd (omega (arith, outcome_counts x.number (outcomes_in rest) (ended Delivered y x) out refl))
      go (lands in-tray one count led) =
          at_entry (ap (λ o. o.node) (sole_outcome x.number (outcomes_in rest) (ended Delivered x.destination x) (ended Delivered y x) one in-tray out refl refl)) count led
      go (turns_back in-tray one lost) =
          let same = ap (λ o. o.ending) (sole_outcome x.number (outcomes_in rest) (ended Returned x.node x) (ended Delivered y x) one in-tray out refl refl) in
          let clash : ◌≡◌ {A = ℕ} 0 1 = cc in absurd (omega arith)

  pub hops : (s : State) → Invariant layout s → Calm layout s → (before rest : List Event) (now end : State) →
      Run layout s before now → Run layout now rest end → Quiet before → Quiet rest →
      (x : Packet) (y : ℕ) → Has now.packets x → (x.node ≡ y → ⊥) → Has (outcomes_in rest) (ended Delivered y x) →
      (ports : Ports) × (entry_of now.nodes x.node y ≡ entry ports (crossings x.number rest)) × (crossings x.number rest < layout.count)
  hops s inv calm before rest now end run-before run-rest quiet-before quiet-rest =
      let still = calm_stays layout sound keeps s now before inv calm run-before quiet-before in
      hops_on now end rest still.2 still.1 run-rest quiet-rest
