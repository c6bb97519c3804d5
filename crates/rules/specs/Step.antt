-- A step: the packets are taken once each, by rising number.
use Rattle.std.specs.Prelude.{ℕ, ◌+◌, Bool, true, false, not, ◌&&◌, ◌||◌, List, [], ◌∷◌, ◌++◌, Some, None, ◌==◌, nat_eq, Option}
use Rattle.wiring.specs.Layout.{Layout}
use Rattle.rules.specs.declared.Ending.TheVariants.{Delivered, Returned}
use Rattle.rules.specs.declared.Mark.{Mark}
use Rattle.rules.specs.declared.Mode.TheVariants.{New, Recovering, Serving}
use Rattle.rules.specs.declared.Outcome.{Outcome}
use Rattle.rules.specs.declared.Packet.{Packet}
use Rattle.rules.specs.declared.StepCounts.{StepCounts}
use Rattle.rules.specs.Ports.{Ports, has, ports_where, some_port}
use Rattle.rules.specs.State.{Node, State, Entry, nothing, entry, node_of, mark_of, live_of, entry_of}
use Rattle.rules.specs.Flood.{is_up, is_marked}

-- A turn between two ports is permitted when both are marked and not both are up.
unfoldable pub turn : Mark → Mark → Bool
turn from to = is_marked from && is_marked to && not (is_up from && is_up to)

-- From home any marked port is permitted.
unfoldable pub permitted : List Node → ℕ → Option ℕ → ℕ → Bool
permitted nodes n None p = is_marked (mark_of nodes n p)
permitted nodes n (Some a) p = turn (mark_of nodes n a) (mark_of nodes n p)

-- Whether a packet stands at port p of node n.
unfoldable pub stands_at : ℕ → ℕ → Packet → Bool
stands_at n p x = x.node == n && elim x.standing [ None ↦ false | Some q ↦ nat_eq q p ]

unfoldable pub taken : ℕ → ℕ → List Packet → Bool
taken n p [] = false
taken n p (x ∷ xs) = stands_at n p x || taken n p xs

-- Whether the far end of port p of node n has no packet.
unfoldable pub far_port_empty : Layout → List Packet → ℕ → ℕ → Bool
far_port_empty layout others n p =
    elim (layout.far n p) [ None ↦ false | Some far ↦ not (taken far.0 far.1 others) ]

-- The ports offered to a packet at a serving node with this entry for its destination: those in
-- the entry, by a permitted turn, with a live cable and an empty far port.
unfoldable pub offered : Layout → List Node → List Packet → Packet → Entry → Ports
offered layout nodes others x nothing = ports_where (λ p. false)
offered layout nodes others x (entry ports count) =
    ports_where (λ p.
    has ports p && permitted nodes x.node x.standing p && live_of nodes x.node p
    && far_port_empty layout others x.node p)

-- What happens to a packet in a step.
pub data Fate : Type 0 where
  waits : Fate
  delivered : Fate
  returned : Fate
  crosses : ℕ → ℕ → Fate

-- Over the picked port, where anything was offered.
unfoldable pub crossing : Layout → ℕ → Ports → ℕ → Fate
crossing layout n offer pick =
    elim (some_port offer) [
      | false ↦ waits
      | true ↦ elim (layout.far n pick) [ None ↦ waits | Some far ↦ crosses far.0 far.1 ]
    ]

-- What a step asks the chooser for a packet, and what then happens to it. Where a packet does not
-- get as far as an offer, nothing is offered.
unfoldable pub offer_for : Layout → List Node → List Packet → Packet → Ports
offer_for layout nodes others x =
    elim (node_of nodes x.node).mode [
      | New ↦ ports_where (λ p. false)
      | Recovering root left ↦ ports_where (λ p. false)
      | Serving root ↦
          elim (x.node == x.destination) [
            | true ↦ ports_where (λ p. false)
            | false ↦ offered layout nodes others x (entry_of nodes x.node x.destination)
          ]
    ]

-- At a recovering node a packet waits. At a serving node it is delivered at its destination,
-- returned without an entry, and otherwise crosses by the picked port or waits.
unfoldable pub fate : Layout → List Node → List Packet → ℕ → Packet → Fate
fate layout nodes others pick x =
    elim (node_of nodes x.node).mode [
      | New ↦ waits
      | Recovering root left ↦ waits
      | Serving root ↦
          elim (x.node == x.destination) [
            | true ↦ delivered
            | false ↦
                elim (entry_of nodes x.node x.destination) [
                  | nothing ↦ returned
                  | entry ports count ↦ crossing layout x.node (offer_for layout nodes others x) pick
                ]
          ]
    ]

-- In the middle of a step: the packets taken that are still in flight, what went to the tray, the
-- numbers of those that crossed a cable, the counts, and every offer with its pick.
pub record Middle : Type 0 where
  pub flying : List Packet
  pub outcomes : List Outcome
  pub crossed : List ℕ
  pub counts : StepCounts
  pub asked : List (Ports × ℕ)

abbrev pub no_counts : StepCounts
no_counts = record { moved = 0; delivered = 0; returned = 0; waited = 0 }

abbrev pub start : Middle
start = record { flying = []; outcomes = []; crossed = []; counts = no_counts; asked = [] }

abbrev pub moved_to : ℕ → ℕ → Packet → Packet
moved_to m q x = record {
  number = x.number;
  source = x.source;
  destination = x.destination;
  word = x.word;
  node = m;
  standing = Some q;
}

unfoldable pub apply : Fate → Packet → Ports × ℕ → Middle → Middle
apply waits x ask mid = record {
  flying = mid.flying ++ x ∷ [];
  outcomes = mid.outcomes;
  crossed = mid.crossed;
  counts = record {
    moved = mid.counts.moved;
    delivered = mid.counts.delivered;
    returned = mid.counts.returned;
    waited = mid.counts.waited + 1;
  };
  asked = mid.asked ++ ask ∷ [];
}
apply (crosses m q) x ask mid = record {
  flying = mid.flying ++ moved_to m q x ∷ [];
  outcomes = mid.outcomes;
  crossed = mid.crossed ++ x.number ∷ [];
  counts = record {
    moved = mid.counts.moved + 1;
    delivered = mid.counts.delivered;
    returned = mid.counts.returned;
    waited = mid.counts.waited;
  };
  asked = mid.asked ++ ask ∷ [];
}
apply delivered x ask mid = record {
  flying = mid.flying;
  outcomes = mid.outcomes ++ record { number = x.number; ending = Delivered; node = x.node; word = x.word } ∷ [];
  crossed = mid.crossed;
  counts = record {
    moved = mid.counts.moved;
    delivered = mid.counts.delivered + 1;
    returned = mid.counts.returned;
    waited = mid.counts.waited;
  };
  asked = mid.asked ++ ask ∷ [];
}
apply returned x ask mid = record {
  flying = mid.flying;
  outcomes = mid.outcomes ++ record { number = x.number; ending = Returned; node = x.node; word = x.word } ∷ [];
  crossed = mid.crossed;
  counts = record {
    moved = mid.counts.moved;
    delivered = mid.counts.delivered;
    returned = mid.counts.returned + 1;
    waited = mid.counts.waited;
  };
  asked = mid.asked ++ ask ∷ [];
}

-- One packet taken, with the packets behind it still to come.
unfoldable pub take_one : Layout → List Node → Packet → List Packet → ℕ → Middle → Middle
take_one layout nodes x rest pick mid =
    apply (fate layout nodes (mid.flying ++ rest) pick x) x (offer_for layout nodes (mid.flying ++ rest) x, pick) mid

abbrev pub first_pick : List ℕ → ℕ
first_pick [] = 0
first_pick (pick ∷ picks) = pick

abbrev pub later_picks : List ℕ → List ℕ
later_picks [] = []
later_picks (pick ∷ picks) = picks

-- The packets taken in turn, with a pick for each.
unfoldable pub sweep : Layout → List Node → List Packet → List ℕ → Middle → Middle
sweep layout nodes [] picks mid = mid
sweep layout nodes (x ∷ rest) picks mid =
    sweep layout nodes rest (later_picks picks) (take_one layout nodes x rest (first_pick picks) mid)

-- A whole step with these picks.
unfoldable pub step_with : Layout → State → List ℕ → Middle
step_with layout s picks = sweep layout s.nodes s.packets picks start

unfoldable pub after_step : State → Middle → State
after_step s mid = record { nodes = s.nodes; owner = s.owner; last = s.last; packets = mid.flying }
