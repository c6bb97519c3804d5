-- A slot: its owner broadcasts as root or member or is silent, then every recovery is one slot nearer its end.
use Rattle.std.specs.Prelude.{ℕ, zero, suc, ◌+◌, ◌%◌, Bool, true, false, cond, List, map, slice_set, None}
use Rattle.wiring.specs.Layout.{Layout}
use Rattle.rules.specs.declared.Act.{Act}
use Rattle.rules.specs.declared.Act.TheVariants.{Silent, Root, Member}
use Rattle.rules.specs.declared.Mode.{Mode}
use Rattle.rules.specs.declared.Mode.TheVariants.{New, Recovering, Serving}
use Rattle.rules.specs.declared.Packet.{Packet}
use Rattle.rules.specs.declared.SlotAnswer.{SlotAnswer}
use Rattle.rules.specs.Ports.{table}
use Rattle.rules.specs.State.{Node, State, Entry, nothing, entry, node_of, mark_of, entry_of}
use Rattle.rules.specs.Flood.{Cell, waiting, deaf, wrote, cell_of, Spread, spread}
use Rattle.rules.specs.Root.{rooted}

-- A recovering owner broadcasts as member; a new or serving one with its hand up becomes root;
-- otherwise it is silent.
abbrev pub act_of : Mode → Bool → Act
act_of New true = Root
act_of New false = Silent
act_of (Recovering root left) hand = Member
act_of (Serving root) true = Root
act_of (Serving root) false = Silent

abbrev pub is_nothing : Entry → Bool
is_nothing nothing = true
is_nothing (entry ports count) = false

-- The broadcast of an owner over the marks that the nodes have.
unfoldable pub broadcast : Layout → List Node → ℕ → Spread
broadcast layout nodes owner =
    spread layout (mark_of nodes) owner (λ n. cond (is_nothing (entry_of nodes n owner)) false true)

-- A node's row after the owner's broadcast: a node that got a flag has an entry for the owner.
unfoldable pub informed : Node → ℕ → Cell → Node
informed node owner waiting = node
informed node owner deaf = node
informed node owner (wrote ports at) = record {
  mode = node.mode;
  hand = node.hand;
  live = node.live;
  marks = node.marks;
  row = slice_set node.row owner (entry ports at);
}

unfoldable pub heard : Layout → List Node → ℕ → List Cell → List Node
heard layout nodes owner cells = table layout.count (λ n. informed (node_of nodes n) owner (cell_of cells n))

-- One slot fewer left; at none left the node serves.
unfoldable pub tick_mode : Mode → Mode
tick_mode New = New
tick_mode (Recovering root zero) = Serving root
tick_mode (Recovering root (suc zero)) = Serving root
tick_mode (Recovering root (suc (suc left))) = Recovering root (suc left)
tick_mode (Serving root) = Serving root

abbrev pub tick : Node → Node
tick node = record {
  mode = tick_mode node.mode;
  hand = node.hand;
  live = node.live;
  marks = node.marks;
  row = node.row;
}

-- Whether a node that had this mode serves from the end of this slot on.
unfoldable pub ends_recovery : Mode → Bool
ends_recovery New = false
ends_recovery (Recovering root zero) = true
ends_recovery (Recovering root (suc zero)) = true
ends_recovery (Recovering root (suc (suc left))) = false
ends_recovery (Serving root) = false

-- A packet that stands at home at the same node.
abbrev pub at_home : Packet → Packet
at_home x = record {
  number = x.number;
  source = x.source;
  destination = x.destination;
  word = x.word;
  node = x.node;
  standing = None;
}

-- The packets standing at a node that ends its recovery go home.
unfoldable pub sent_home : List Node → Packet → Packet
sent_home nodes x = cond (ends_recovery (node_of nodes x.node).mode) (at_home x) x

-- What is left of a slot once its broadcast is done.
unfoldable pub slot_end : Layout → State → List Node → State
slot_end layout s nodes = record {
  nodes = map tick nodes;
  owner = (s.owner + 1) % layout.count;
  last = s.last;
  packets = map (sent_home nodes) s.packets;
}

pub record Slotted : Type 0 where
  pub answer : SlotAnswer
  pub after : State

-- A slot in which the owner broadcasts over these nodes, as root or as member.
unfoldable pub spoken : Layout → State → Act → List Node → Slotted
spoken layout s act nodes = record {
  answer = record { owner = s.owner; act = act; cycles = flood.cycles };
  after = slot_end layout s (heard layout nodes s.owner flood.cells);
}
  where
    flood : Spread
    flood = broadcast layout nodes s.owner

unfoldable pub acted : Layout → State → Act → Slotted
acted layout s Silent = record {
  answer = record { owner = s.owner; act = Silent; cycles = 0 };
  after = slot_end layout s s.nodes;
}
acted layout s Root = spoken layout s Root (rooted layout s.nodes s.owner)
acted layout s Member = spoken layout s Member s.nodes

-- The slot of the next owner.
unfoldable pub slot : Layout → State → Slotted
slot layout s = acted layout s (act_of (node_of s.nodes s.owner).mode (node_of s.nodes s.owner).hand)
