-- What a wall holds between two calls, and how a reader looks into it.
-- Readings out of range give the empty case: a new node, hand down, no cable, no mark, no entry.
use Rattle.std.specs.Prelude.{ℕ, Bool, true, false, List, [], ◌∷◌, replicate, is_some, slice_index_or}
use Rattle.wiring.specs.Layout.{Layout}
use Rattle.rules.specs.declared.Mark.{Mark}
use Rattle.rules.specs.declared.Mark.TheVariants.{Unmarked}
use Rattle.rules.specs.declared.Mode.{Mode}
use Rattle.rules.specs.declared.Mode.TheVariants.{New}
use Rattle.rules.specs.declared.Packet.{Packet}
use Rattle.rules.specs.Ports.{Ports, has, ports_where, table}

-- What a routing table has for a destination: nothing, or the ports that lead there and the
-- number of cables to cross.
pub data Entry : Type 0 where
  nothing : Entry
  entry : Ports → ℕ → Entry

pub record Node : Type 0 where
  pub mode : Mode
  -- up when the node asks for a recovery
  pub hand : Bool
  -- the ports whose cables are live
  pub live : Ports
  -- the marks of the ports 0 to 3
  pub marks : List Mark
  -- the routing table: for each destination an entry
  pub row : List Entry

pub record State : Type 0 where
  pub nodes : List Node
  -- the owner of the next slot
  pub owner : ℕ
  -- the last packet number given out
  pub last : ℕ
  -- the packets in flight, by rising number
  pub packets : List Packet

-- What a reading past the last node gives.
abbrev pub absent : Node
absent = record { mode = New; hand = false; live = []; marks = []; row = [] }

abbrev pub node_of : List Node → ℕ → Node
node_of nodes n = slice_index_or nodes n absent

abbrev pub mark_of : List Node → ℕ → ℕ → Mark
mark_of nodes n p = slice_index_or (node_of nodes n).marks p Unmarked

abbrev pub live_of : List Node → ℕ → ℕ → Bool
live_of nodes n p = has (node_of nodes n).live p

abbrev pub entry_of : List Node → ℕ → ℕ → Entry
entry_of nodes n x = slice_index_or (node_of nodes n).row x nothing

-- No port is marked.
abbrev pub no_marks : List Mark
no_marks = Unmarked ∷ Unmarked ∷ Unmarked ∷ Unmarked ∷ []

-- A node at power-up: new, its hand up, its cables live, no port marked, its row empty.
unfoldable pub fresh : Layout → ℕ → Node
fresh layout n = record {
  mode = New;
  hand = true;
  live = ports_where (λ p. is_some (layout.far n p));
  marks = no_marks;
  row = replicate layout.count nothing;
}

unfoldable pub power_up : Layout → State
power_up layout = record {
  nodes = table layout.count (fresh layout);
  owner = 0;
  last = 0;
  packets = [];
}
