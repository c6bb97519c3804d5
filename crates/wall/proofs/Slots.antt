-- A slot as the plain part of a wall does it: the broadcast, the packets that go home, the tick.
use Rattle.std.proofs.Common.{◌≡◌, ℕ, ◌+◌, ◌%◌, List, map, sym, refl, ap}
use Rattle.wiring.specs.Layout.{Layout}
use Rattle.rules.specs.declared.Act.{Act}
use Rattle.rules.specs.declared.Act.TheVariants.{Silent, Root, Member}
use Rattle.rules.specs.declared.Packet.{Packet}
use Rattle.rules.specs.State.{Node, State, node_of}
use Rattle.rules.specs.Slot.{act_of, tick, sent_home, slot_end, Slotted, spoken, acted, slot}
use Rattle.board.specs.Begun.{told, begun_by, begun}

by_act : (layout : Layout) (s : State) (act : Act) → acted layout s act ≡
    record { answer = (begun_by layout s.nodes s.owner act).answer; after = slot_end layout s (begun_by layout s.nodes s.owner act).nodes }
unfolding acted spoken begun_by told
by_act layout s Silent = refl
by_act layout s Root = refl
by_act layout s Member = refl

-- A slot is its beginning and its end.
pub slot_begun : (layout : Layout) (s : State) → slot layout s ≡
    record { answer = (begun layout s.nodes s.owner).answer; after = slot_end layout s (begun layout s.nodes s.owner).nodes }
unfolding slot begun
slot_begun layout s = by_act layout s (act_of (node_of s.nodes s.owner).mode (node_of s.nodes s.owner).hand)

-- The state after a slot, from its parts.
pub slot_ended : (layout : Layout) (s : State) (begun_nodes nodes : List Node) (packets : List Packet) (owner last count : ℕ) →
    begun_nodes ≡ (begun layout s.nodes s.owner).nodes → nodes ≡ map tick begun_nodes → packets ≡ map (sent_home begun_nodes) s.packets →
    owner ≡ (s.owner + 1) % count → count ≡ layout.count → last ≡ s.last →
    record { nodes = nodes; owner = owner; last = last; packets = packets } ≡ (slot layout s).after
unfolding slot_end
slot_ended layout s begun_nodes nodes packets owner last count eb en ep eo ec el =
    rw (en, ep, eo, ec, el, eb) (ap (λ (x : Slotted). x.after) (sym (slot_begun layout s)))
