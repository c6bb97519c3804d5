-- The laws: that the definitions which compute distances, marks and floods compute what they are
-- meant to.
use Rattle.std.specs.Prelude.{◌≡◌, ℕ, suc, ◌+◌, ◌*◌, ◌<◌, ◌≤◌, Bool, true, false, ◌⊎◌, List, length, Some, None, ◌≢◌}
use Rattle.wiring.specs.Layout.{Layout, Sound}
use Rattle.rules.specs.declared.Mark.TheVariants.{Unmarked, Up, Down}
use Rattle.rules.specs.declared.Mode.TheVariants.{Recovering}
use Rattle.rules.specs.declared.Outcome.{Outcome}
use Rattle.rules.specs.declared.StepCounts.{StepCounts}
use Rattle.rules.specs.State.{Node, State, nothing, node_of, mark_of, live_of, entry_of, power_up}
use Rattle.rules.specs.Ports.{Ports, has}
use Rattle.rules.specs.Flood.{Marks, is_up, is_marked, waiting, deaf, wrote, cell_of, spread}
use Rattle.rules.specs.Root.{distances, distance, rooted}
use Rattle.rules.specs.Runs.{Steps, Event, Run}
use Rattle.rules.specs.Promise.{Way, Joined, Promised}

-- A wall that some run of calls from power-up reaches.
abbrev pub Reachable : Layout → State → Type 0
Reachable layout s = (log : List Event) × Run layout (power_up layout) log s

-- The main theorem: over every sound wiring, every state that a run of calls can reach keeps the
-- promise.
abbrev pub PromiseLaw : Type 0
PromiseLaw = (layout : Layout) → Sound layout → Promised layout (power_up layout)

-- Distances

-- The least number of live cables from one node to another.
pub record Least (layout : Layout) (s : State) (n m d : ℕ) : Type 0 where
  pub way : Way layout s n m d
  pub no_shorter : (k : ℕ) → Way layout s n m k → d ≤ k

-- The distances from a root are the least numbers of live cables, and there is none exactly where
-- no way leads.
pub record Distances (layout : Layout) (s : State) (root : ℕ) : Type 0 where
  pub is_least : (n d : ℕ) → distance (distances layout s.nodes root) n ≡ Some d → Least layout s n root d
  pub least_is : (n d : ℕ) → Least layout s n root d → distance (distances layout s.nodes root) n ≡ Some d
  pub no_way : (n : ℕ) → distance (distances layout s.nodes root) n ≡ None → Joined layout s n root → ⊥
  pub way_there : (n : ℕ) → Joined layout s n root → (d : ℕ) × (distance (distances layout s.nodes root) n ≡ Some d) × (d < layout.count)

-- So it is for every root in every wall that a run can reach.
abbrev pub DistanceLaw : Type 0
DistanceLaw = (layout : Layout) → Sound layout → (s : State) → Reachable layout s → (root : ℕ) → root < layout.count → Distances layout s root

-- Marks

-- A node's order: its distance from the root, times the number of nodes, plus its number.
abbrev pub Order : Layout → State → ℕ → ℕ → ℕ → Type 0
Order layout s root n order = (d : ℕ) × Least layout s n root d × (order ≡ d * layout.count + n)

-- A node after a root's broadcast reached it: it recovers with all slots left, its hand down, its
-- row empty, and its live ports marked up exactly where the neighbour's order is lower.
pub record Enlists (layout : Layout) (s : State) (root n : ℕ) (after : List Node) : Type 0 where
  pub mode_is : (node_of after n).mode ≡ Recovering root layout.count
  pub hand_down : (node_of after n).hand ≡ false
  pub live_stays : (node_of after n).live ≡ (node_of s.nodes n).live
  pub row_empty : (x : ℕ) → entry_of after n x ≡ nothing
  pub dead_unmarked : (p : ℕ) → live_of s.nodes n p ≡ false → mark_of after n p ≡ Unmarked
  pub up_if_lower : (p m q a b : ℕ) → live_of s.nodes n p ≡ true → layout.far n p ≡ Some (m, q) →
      Order layout s root n a → Order layout s root m b → b < a → mark_of after n p ≡ Up
  pub down_otherwise : (p m q a b : ℕ) → live_of s.nodes n p ≡ true → layout.far n p ≡ Some (m, q) →
      Order layout s root n a → Order layout s root m b → (b < a → ⊥) → mark_of after n p ≡ Down

-- A root's broadcast enlists every node joined to the root, and leaves every other as it is.
pub record Roots (layout : Layout) (s : State) (root : ℕ) : Type 0 where
  pub enlists : (n : ℕ) → Joined layout s n root → Enlists layout s root n (rooted layout s.nodes root)
  pub leaves : (n : ℕ) → n < layout.count → (Joined layout s n root → ⊥) → node_of (rooted layout s.nodes root) n ≡ node_of s.nodes n

-- So it is for every root in every wall that a run can reach.
abbrev pub RootLaw : Type 0
RootLaw = (layout : Layout) → Sound layout → (s : State) → Reachable layout s → (root : ℕ) → root < layout.count → Roots layout s root

-- Floods

-- Whether a flag arrives in a cycle at a node's port.
abbrev pub Arrivals : Type 0
Arrivals = ℕ → ℕ → ℕ → Bool

-- The first cycle that brings a node a flag.
pub record First (flag : Arrivals) (c n : ℕ) : Type 0 where
  pub port : ℕ
  pub now : flag c n port ≡ true
  pub none_before : (j p : ℕ) → j < c → flag j n p ≡ false

-- Which flags are sent, by cycle, node and port. The owner sends on all its marked ports in cycle
-- 1. Any other node that heeds flags sends in the cycle after its first flags, on its marked ports
-- that got none; if every flag came by an up port, on down ports only.
pub data Sent (marks : Marks) (owner : ℕ) (deaf_node : ℕ → Bool) (flag : Arrivals) : ℕ → ℕ → ℕ → Type 0 where
  by_owner : {q : ℕ} → is_marked (marks owner q) ≡ true → Sent marks owner deaf_node flag 1 owner q
  passed_on : {c n q : ℕ} → (n ≢ owner) → deaf_node n ≡ false → First flag c n → is_marked (marks n q) ≡ true → flag c n q ≡ false →
      (((p : ℕ) → flag c n p ≡ true → is_up (marks n p) ≡ true) → is_up (marks n q) ≡ false) → Sent marks owner deaf_node flag (suc c) n q

-- A flag arrives at the far end of its cable in the cycle in which it is sent, and no other does.
pub record Flags (layout : Layout) (marks : Marks) (owner : ℕ) (deaf_node : ℕ → Bool) (flag : Arrivals) : Type 0 where
  pub arrives : (c n p m q : ℕ) → layout.far n p ≡ Some (m, q) → Sent marks owner deaf_node flag c m q → flag c n p ≡ true
  pub was_sent : (c n p : ℕ) → flag c n p ≡ true → (m : ℕ) × (q : ℕ) × (layout.far n p ≡ Some (m, q)) × Sent marks owner deaf_node flag c m q

-- What a broadcast leaves behind, in terms of its flags: an entry has the ports that got a flag in
-- the first cycle that brought one, and counts that cycle; a node without an entry got none; the
-- owner and the deaf write nothing; and the cycles that reached a node are those up to the last.
pub record Writes (layout : Layout) (marks : Marks) (owner : ℕ) (deaf_node : ℕ → Bool) (flag : Arrivals) : Type 0 where
  pub entry_first : (n c : ℕ) (ports : Ports) → cell_of (spread layout marks owner deaf_node).cells n ≡ wrote ports c →
      First flag c n × ((p : ℕ) → has ports p ≡ flag c n p)
  pub waiting_none : (n c p : ℕ) → cell_of (spread layout marks owner deaf_node).cells n ≡ waiting → flag c n p ≡ false
  pub deaf_stays : (n : ℕ) → n < layout.count → (n ≡ owner) ⊎ (deaf_node n ≡ true) → cell_of (spread layout marks owner deaf_node).cells n ≡ deaf
  pub deaf_only : (n : ℕ) → cell_of (spread layout marks owner deaf_node).cells n ≡ deaf → (n ≡ owner) ⊎ (deaf_node n ≡ true)
  pub each_reaches : (c : ℕ) → 1 ≤ c → c ≤ (spread layout marks owner deaf_node).cycles → (n : ℕ) × (n ≢ owner) × (deaf_node n ≡ false) × First flag c n
  pub none_later : (n c : ℕ) → (n ≢ owner) → deaf_node n ≡ false → First flag c n → c ≤ (spread layout marks owner deaf_node).cycles

-- Every broadcast has its flags, and any flags of it say what it leaves behind.
abbrev pub FloodLaw : Type 0
FloodLaw = (layout : Layout) → Sound layout → (marks : Marks) (owner : ℕ) → owner < layout.count → (deaf_node : ℕ → Bool) →
    ((flag : Arrivals) × Flags layout marks owner deaf_node flag)
    × ((flag : Arrivals) → Flags layout marks owner deaf_node flag → Writes layout marks owner deaf_node flag)

-- Steps

-- The counts of a step add up to the packets in flight before it.
abbrev pub CountsLaw : Type 0
CountsLaw = (layout : Layout) → Sound layout → (s after : State) (counts : StepCounts) (outcomes : List Outcome) (crossed : List ℕ) (asked : List (Ports × ℕ)) →
    Steps layout s counts outcomes crossed asked after →
    counts.moved + counts.delivered + counts.returned + counts.waited ≡ length s.packets
