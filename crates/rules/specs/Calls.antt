-- Cut, hand and post: when each is refused, and what it leaves behind otherwise.
use Rattle.std.specs.Prelude.{ℕ, ◌+◌, Bool, true, false, List, [], ◌∷◌, ◌++◌, length, Some, None, Option, ◌==◌, nat_le, slice_set}
use Rattle.wiring.specs.Layout.{Layout}
use Rattle.rules.specs.declared.Mode.{Mode}
use Rattle.rules.specs.declared.Mode.TheVariants.{New, Recovering, Serving}
use Rattle.rules.specs.declared.Packet.{Packet}
use Rattle.rules.specs.declared.Refusal.{Refusal}
use Rattle.rules.specs.declared.Refusal.TheVariants.{NodeOutOfRange, PortOutOfRange, SameNode, NoCable, AlreadyCut, SourceNotServing, NoEntry, WallFull, NumbersUsedUp}
use Rattle.rules.specs.Ports.{without}
use Rattle.rules.specs.State.{Node, State, node_of, live_of, entry_of}
use Rattle.rules.specs.Slot.{is_nothing}

-- A check: refused for this reason where the test holds, and otherwise what the later checks say.
abbrev pub refuse_if : Bool → Refusal → Option Refusal → Option Refusal
refuse_if true reason later = Some reason
refuse_if false reason later = later

abbrev pub outside : Layout → ℕ → Bool
outside layout n = nat_le layout.count n

-- Cut

abbrev pub no_cable : Layout → ℕ → ℕ → Bool
no_cable layout n p = elim (layout.far n p) [ None ↦ true | Some far ↦ false ]

abbrev pub is_dead : Bool → Bool
is_dead true = false
is_dead false = true

unfoldable pub cut_refused : Layout → State → ℕ → ℕ → Option Refusal
cut_refused layout s n p =
    refuse_if (outside layout n) NodeOutOfRange
    (refuse_if (nat_le 4 p) PortOutOfRange
    (refuse_if (no_cable layout n p) NoCable
    (refuse_if (is_dead (live_of s.nodes n p)) AlreadyCut None)))

-- One end of a cut cable: the cable is dead there and the hand goes up. Marks and row stay.
unfoldable pub cut_end : ℕ → Node → Node
cut_end p node = record {
  mode = node.mode;
  hand = true;
  live = without node.live p;
  marks = node.marks;
  row = node.row;
}

-- One node changed, and no other.
unfoldable pub changed : (Node → Node) → ℕ → List Node → List Node
changed f n nodes = slice_set nodes n (f (node_of nodes n))

unfoldable pub with_nodes : State → List Node → State
with_nodes s nodes = record { nodes = nodes; owner = s.owner; last = s.last; packets = s.packets }

-- Both ends of the cable are changed, and no other node.
unfoldable pub after_cut : Layout → State → ℕ → ℕ → State
after_cut layout s n p =
    elim (layout.far n p) [
      | None ↦ s
      | Some far ↦ with_nodes s (changed (cut_end far.1) far.0 (changed (cut_end p) n s.nodes))
    ]

-- Hand

unfoldable pub hand_refused : Layout → ℕ → Option Refusal
hand_refused layout n = refuse_if (outside layout n) NodeOutOfRange None

unfoldable pub raised : Node → Node
raised node = record {
  mode = node.mode;
  hand = true;
  live = node.live;
  marks = node.marks;
  row = node.row;
}

unfoldable pub after_hand : State → ℕ → State
after_hand s n = with_nodes s (changed raised n s.nodes)

-- Post

abbrev pub not_serving : Mode → Bool
not_serving New = true
not_serving (Recovering root left) = true
not_serving (Serving root) = false

-- The most packets in flight, and the last number that can be given out.
abbrev pub most_packets : ℕ
most_packets = 256

abbrev pub last_number : ℕ
last_number = 4294967295

unfoldable pub post_refused : Layout → State → ℕ → ℕ → Option Refusal
post_refused layout s source destination =
    refuse_if (outside layout source) NodeOutOfRange
    (refuse_if (outside layout destination) NodeOutOfRange
    (refuse_if (source == destination) SameNode
    (refuse_if (not_serving (node_of s.nodes source).mode) SourceNotServing
    (refuse_if (is_nothing (entry_of s.nodes source destination)) NoEntry
    (refuse_if (nat_le most_packets (length s.packets)) WallFull
    (refuse_if (nat_le last_number s.last) NumbersUsedUp None))))))

-- The packet stands at home at its source and has the next number.
abbrev pub posted : State → ℕ → ℕ → ℕ → Packet
posted s source destination word = record {
  number = s.last + 1;
  source = source;
  destination = destination;
  word = word;
  node = source;
  standing = None;
}

unfoldable pub after_post : State → ℕ → ℕ → ℕ → State
after_post s source destination word = record {
  nodes = s.nodes;
  owner = s.owner;
  last = s.last + 1;
  packets = s.packets ++ posted s source destination word ∷ [];
}
