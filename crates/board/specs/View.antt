-- What the records of a board stand for: the nodes of a wall's state.
use Rattle.std.specs.Prelude.{◌≡◌, ℕ, Bool, true, false, List, [], map, take, Some, None, Option}
use Rattle.wiring.specs.Layout.{Layout}
use Rattle.rules.specs.State as rules
use Rattle.rules.specs.Root.{distance, enlisted}
use Rattle.rules.specs.Flood as flood
use Rattle.board.specs.declared.types.Board.{Board}
use Rattle.board.specs.declared.types.Node.{Node}
use Rattle.board.specs.declared.types.Way.{Way}

abbrev pub entry_view : Option Way → rules.Entry
entry_view None = rules.nothing
entry_view (Some way) = rules.entry way.ports way.count

-- A node's record in a wall of so many nodes: its row has an entry for each of them.
abbrev pub node_view : ℕ → Node → rules.Node
node_view count n = record {
  mode = n.mode;
  hand = n.hand;
  live = n.live;
  marks = n.marks;
  row = map entry_view (take count n.row);
}

-- A record with its hand up, and nothing else changed.
abbrev pub with_hand_up : Node → Node
with_hand_up n = record { mode = n.mode; hand = true; live = n.live; marks = n.marks; row = n.row }

-- The nodes of a wall of so many nodes, from the array of all records.
unfoldable pub nodes_at : ℕ → List Node → List rules.Node
nodes_at count nodes = map (node_view count) (take count nodes)

unfoldable pub nodes_view : Board → List rules.Node
unfolding nodes_at
nodes_view b = nodes_at b.count b.nodes

-- A board whose nodes became these. Their number stays.
pub record Becomes (before after : Board) (given : List rules.Node) : Type 0 where
  pub nodes : nodes_view after ≡ given
  pub count : after.count ≡ before.count

-- A wall's state with these nodes and no packets. Cuts and hands look at nothing else.
abbrev pub board_state : Board → rules.State
board_state b = record { nodes = nodes_view b; owner = 0; last = 0; packets = [] }

-- Whether a root's flag reached a node, or it is the root.
abbrev pub is_joined : flood.Cell → Bool
is_joined flood.waiting = false
is_joined flood.deaf = true
is_joined (flood.wrote ports at) = true

-- A node after a root's slot began, by the root's flag: enlisted where it came, else as it was.
unfoldable pub rooted_node : Layout → List rules.Node → List flood.Cell → ℕ → ℕ → rules.Node
rooted_node layout nodes cells root n =
    elim (distance cells n) [ None ↦ rules.node_of nodes n | Some d ↦ enlisted layout nodes cells root n ]
