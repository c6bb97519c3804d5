-- A broadcast: how a flag spreads from the owner of a slot, cycle by cycle, over marked cables.
use Rattle.std.specs.Prelude.{ℕ, zero, suc, Bool, true, false, cond, not, ◌&&◌, ◌||◌, List, [], ◌∷◌, Some, None, ◌==◌, slice_index_or}
use Rattle.wiring.specs.Layout.{Layout}
use Rattle.rules.specs.declared.Mark.{Mark}
use Rattle.rules.specs.declared.Mark.TheVariants.{Unmarked, Up, Down}
use Rattle.rules.specs.Ports.{Ports, has, ports_where, some_port, table}

abbrev pub is_up : Mark → Bool
is_up Unmarked = false
is_up Up = true
is_up Down = false

abbrev pub is_down : Mark → Bool
is_down Unmarked = false
is_down Up = false
is_down Down = true

abbrev pub is_marked : Mark → Bool
is_marked Unmarked = false
is_marked Up = true
is_marked Down = true

-- The marks of all ports, by node and port.
abbrev pub Marks : Type 0
Marks = ℕ → ℕ → Mark

-- What a node knows of the owner's flag. `deaf`: it is the owner, or has an entry for the owner
-- from before, and ignores flags. `waiting`: no flag yet. `wrote`: the ports that got a flag in
-- the first cycle that brought one, and that cycle.
pub data Cell : Type 0 where
  waiting : Cell
  deaf : Cell
  wrote : Ports → ℕ → Cell

abbrev pub cell_of : List Cell → ℕ → Cell
cell_of cells n = slice_index_or cells n waiting

-- Whether every port of the set is marked up at node n.
unfoldable pub all_up : Marks → ℕ → Ports → Bool
all_up marks n ports = up 0 && up 1 && up 2 && up 3
  where
    up : ℕ → Bool
    up p = not (has ports p) || is_up (marks n p)

-- Whether a node that wrote its entry in cycle `at` sends on port q in cycle c + 1: in the cycle
-- after it wrote, on a marked port that got no flag; if all its flags came by up ports, on down
-- ports only.
unfoldable pub passes_on : Marks → ℕ → ℕ → ℕ → Cell → Bool
passes_on marks c n q waiting = false
passes_on marks c n q deaf = false
passes_on marks c n q (wrote ports at) =
    (at == c) && not (has ports q) && (is_down (marks n q) || is_up (marks n q) && not (all_up marks n ports))

-- Whether node n sends a flag on port q in cycle c + 1: the owner on all its marked ports in
-- cycle 1, any other node as it passes on.
unfoldable pub sends : Marks → ℕ → ℕ → List Cell → ℕ → ℕ → Bool
sends marks owner c cells n q = cond (n == owner) (c == 0 && is_marked (marks n q)) (passes_on marks c n q (cell_of cells n))

-- Whether port p of node n gets a flag in cycle c + 1: its cable's far end sends one. A flag has
-- a wire of its own, so it crosses a marked cable even if that was cut since.
unfoldable pub gets : Layout → Marks → ℕ → ℕ → List Cell → ℕ → ℕ → Bool
gets layout marks owner c cells n p =
    elim (layout.far n p) [ None ↦ false | Some far ↦ sends marks owner c cells far.0 far.1 ]

-- A node's cell after cycle c + 1.
unfoldable pub next_cell : Layout → Marks → ℕ → ℕ → List Cell → ℕ → Cell
next_cell layout marks owner c cells n =
    elim (cell_of cells n) [
      | waiting ↦
          let ports = ports_where (gets layout marks owner c cells n) in
          elim (some_port ports) [ true ↦ wrote ports (suc c) | false ↦ waiting ]
      | deaf ↦ deaf
      | wrote ports at ↦ wrote ports at
    ]

unfoldable pub cycle : Layout → Marks → ℕ → ℕ → List Cell → List Cell
cycle layout marks owner c cells = table layout.count (next_cell layout marks owner c cells)

-- Whether cycle c reached a node.
unfoldable pub reached : ℕ → List Cell → Bool
reached c [] = false
reached c (waiting ∷ cells) = reached c cells
reached c (deaf ∷ cells) = reached c cells
reached c (wrote ports at ∷ cells) = at == c || reached c cells

-- The cells at the end of a broadcast and the number of cycles that reached a node.
pub record Spread : Type 0 where
  pub cells : List Cell
  pub cycles : ℕ

-- The broadcast from cycle c + 1 on: it ends with the first cycle that reaches no new node. At
-- most `fuel` cycles are run; the node count is enough.
unfoldable pub spread_from : Layout → Marks → ℕ → ℕ → ℕ → List Cell → Spread
spread_from layout marks owner zero c cells = record { cells = cells; cycles = c }
spread_from layout marks owner (suc fuel) c cells =
    let after = cycle layout marks owner c cells in
    elim (reached (suc c) after) [
      | true ↦ spread_from layout marks owner fuel (suc c) after
      | false ↦ record { cells = cells; cycles = c }
    ]

-- The broadcast of an owner to the nodes that are not deaf.
unfoldable pub spread : Layout → Marks → ℕ → (ℕ → Bool) → Spread
spread layout marks owner deaf_node =
    spread_from layout marks owner layout.count 0
    (table layout.count (λ n. cond (n == owner || deaf_node n) deaf waiting))
