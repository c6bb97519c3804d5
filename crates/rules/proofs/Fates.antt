-- Fates: in a run that clears a calm wall each packet gets one outcome, delivered where live
-- cables joined its node to its destination, and else returned where it stood.
use Rattle.std.proofs.Common.{◌≡◌, ◌*◌, ◌≤◌, ◌⊎◌, List, length, subst, inl, inr}
use Rattle.std.specs.List.{ContainsAt as Has}
use Rattle.std.proofs.lemmas.Bool.{cases_eq}
use Rattle.wiring.specs.Layout.{Layout, Sound}
use Rattle.rules.specs.declared.Ending.TheVariants.{Delivered, Returned}
use Rattle.rules.specs.declared.Packet.{Packet}
use Rattle.rules.specs.State.{State}
use Rattle.rules.specs.Runs.{Call, Reply, Does, Event, Run}
use Rattle.rules.specs.Promise.{Way, stay, Joined, Calm, Quiet, steps_in, posts_in, outcomes_in, outcomes_for, ended}
use Rattle.rules.proofs.Invariant.{Invariant}
use Rattle.rules.proofs.Members.{has_none}
use Rattle.rules.proofs.Entries.{entry_if_joined, joined_if_entry}
use Rattle.rules.proofs.Flight.{Led, Flight, flies, lands, turns_back, flight}
use Rattle.rules.proofs.Clearing.{clearing}

module _ (layout : Layout) (sound : Sound layout) (s : State) (inv : Invariant layout s) (calm : Calm layout s)
    (x : Packet) (has : Has s.packets x) where
  led_if_joined : Joined layout s x.node x.destination → Led s.nodes x
  led_if_joined joined = go (cases_eq x.node x.destination)
    where
      go : (x.node ≡ x.destination) ⊎ (x.node ≡ x.destination → ⊥) → Led s.nodes x
      go (inl there) = inl there
      go (inr away) = inr (entry_if_joined layout sound s inv calm x.node x.destination
          (inv.flying.node_below x has) (inv.flying.destination_below x has) away joined)

  joined_if_led : Led s.nodes x → Joined layout s x.node x.destination
  joined_if_led (inl there) = (0, subst (λ y. Way layout s x.node y 0) there stay)
  joined_if_led (inr (ports, count, e)) = go (cases_eq x.node x.destination)
    where
      go : (x.node ≡ x.destination) ⊎ (x.node ≡ x.destination → ⊥) → Joined layout s x.node x.destination
      go (inl there) = (0, subst (λ y. Way layout s x.node y 0) there stay)
      go (inr away) = joined_if_entry layout sound s inv calm x.node x.destination
          (inv.flying.node_below x has) (inv.flying.destination_below x has) away ports count e

module _ (layout : Layout) (sound : Sound layout)
    (keeps : (s next : State) (call : Call) (reply : Reply) → Invariant layout s → Does layout s call reply next → Invariant layout next)
    (s : State) (inv : Invariant layout s) (calm : Calm layout s) (log : List Event) (end : State) (run : Run layout s log end) (quiet : Quiet log)
    (no_post : posts_in log ≡ 0) (enough : length s.packets * layout.count ≤ steps_in log) (x : Packet) (has : Has s.packets x) where
  -- None is in flight at the end.
  none_flies : (y : Packet) → Has end.packets y → ⊥
  none_flies y still =
      has_none y (subst (λ xs. Has xs y) (clearing layout sound keeps s inv calm log end run quiet no_post enough) still)

  fate_of : Flight s.nodes x log end
  fate_of = flight layout sound keeps s end log inv calm run quiet x has

  pub once : outcomes_for x.number (outcomes_in log) ≡ 1
  once = go fate_of
    where
      go : Flight s.nodes x log end → outcomes_for x.number (outcomes_in log) ≡ 1
      go (flies y still none) = absurd (none_flies y still)
      go (lands out one count led) = one
      go (turns_back out one lost) = one

  pub delivered_if_joined : Joined layout s x.node x.destination → Has (outcomes_in log) (ended Delivered x.destination x)
  delivered_if_joined joined = go fate_of
    where
      go : Flight s.nodes x log end → Has (outcomes_in log) (ended Delivered x.destination x)
      go (flies y still none) = absurd (none_flies y still)
      go (lands out one count led) = out
      go (turns_back out one lost) = absurd (lost (led_if_joined layout sound s inv calm x has joined))

  pub returned_if_not : (Joined layout s x.node x.destination → ⊥) → Has (outcomes_in log) (ended Returned x.node x)
  returned_if_not apart = go fate_of
    where
      go : Flight s.nodes x log end → Has (outcomes_in log) (ended Returned x.node x)
      go (flies y still none) = absurd (none_flies y still)
      go (lands out one count led) = absurd (apart (joined_if_led layout sound s inv calm x has led))
      go (turns_back out one lost) = out
