-- What a root's broadcast does first: everyone it reaches starts a recovery with fresh marks.
use Rattle.std.specs.Prelude.{ℕ, ◌+◌, ◌*◌, true, false, cond, List, [], ◌∷◌, replicate, Some, None, Option, nat_lt}
use Rattle.wiring.specs.Layout.{Layout}
use Rattle.rules.specs.declared.Mark.{Mark}
use Rattle.rules.specs.declared.Mark.TheVariants.{Unmarked, Up, Down}
use Rattle.rules.specs.declared.Mode.TheVariants.{Recovering}
use Rattle.rules.specs.Ports.{table}
use Rattle.rules.specs.State.{Node, nothing, node_of, live_of}
use Rattle.rules.specs.Flood.{Cell, waiting, deaf, wrote, cell_of, Marks, spread}

-- Marks by which a flag crosses every live cable: all live ports down.
abbrev pub open_marks : List Node → Marks
open_marks nodes n p = cond (live_of nodes n p) Down Unmarked

-- The cycle in which such a flag from the root reaches each node, which is its distance from the
-- root in live cables.
unfoldable pub distances : Layout → List Node → ℕ → List Cell
distances layout nodes root = (spread layout (open_marks nodes) root (λ n. false)).cells

-- The distance, or nothing where no way over live cables leads.
abbrev pub distance_in : ℕ → Cell → Option ℕ
distance_in n waiting = None
distance_in n deaf = Some 0
distance_in n (wrote ports at) = Some at

abbrev pub distance : List Cell → ℕ → Option ℕ
distance cells n = distance_in n (cell_of cells n)

-- A node's order: by distance from the root, then by number.
abbrev pub order : ℕ → List Cell → ℕ → ℕ
order count cells n = elim (distance cells n) [ None ↦ n | Some d ↦ d * count + n ]

-- A live port is marked up where the neighbour's order is lower, and down otherwise.
unfoldable pub root_mark : Layout → List Node → List Cell → ℕ → ℕ → Mark
root_mark layout nodes cells n p =
    elim (live_of nodes n p) [
      | false ↦ Unmarked
      | true ↦
          elim (layout.far n p) [
            | None ↦ Unmarked
            | Some far ↦ cond (nat_lt (order layout.count cells far.0) (order layout.count cells n)) Up Down
          ]
    ]

-- A node that starts a recovery: N slots left, hand down, row empty, fresh marks.
unfoldable pub enlisted : Layout → List Node → List Cell → ℕ → ℕ → Node
enlisted layout nodes cells root n = record {
  mode = Recovering root layout.count;
  hand = false;
  live = (node_of nodes n).live;
  marks = root_mark layout nodes cells n 0 ∷ root_mark layout nodes cells n 1 ∷ root_mark layout nodes cells n 2 ∷ root_mark layout nodes cells n 3 ∷ [];
  row = replicate layout.count nothing;
}

-- Every node joined to the root by live cables starts a recovery; the others stay as they are.
unfoldable pub rooted : Layout → List Node → ℕ → List Node
rooted layout nodes root = table layout.count (λ n. after n)
  where
    cells : List Cell
    cells = distances layout nodes root

    after : ℕ → Node
    after n =
        elim (distance cells n) [ None ↦ node_of nodes n | Some d ↦ enlisted layout nodes cells root n ]
