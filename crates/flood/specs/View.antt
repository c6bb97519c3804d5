-- What the code's arrays stand for in the rules.
use Rattle.std.specs.Prelude.{ℕ, ◌+◌, ◌*◌, Bool, false, cond, ◌&&◌, List, [], map, take, None, Option, ◌==◌, nat_lt, slice_index_or}
use Rattle.wiring.specs.Layout.{Layout}
use Rattle.rules.specs.declared.Mark.{Mark}
use Rattle.rules.specs.declared.Mark.TheVariants.{Unmarked}
use Rattle.rules.specs.Flood as rules
use Rattle.flood.specs.declared.types.Cell.{Cell}
use Rattle.flood.specs.declared.types.Cell.TheVariants.{Waiting, Deaf, Wrote}

-- The far end of a port in a table of far ends; nothing for a node or port out of range.
abbrev pub far_in : List (Option (ℕ × ℕ)) → ℕ → ℕ → Option (ℕ × ℕ)
far_in ends n p = cond (nat_lt n 64 && nat_lt p 4) (slice_index_or ends (4 * n + p) None) None

-- The layout that a table of far ends spells.
abbrev pub wired : ℕ → List (Option (ℕ × ℕ)) → Layout
wired count ends = record { count = count; far = far_in ends }

abbrev pub marks_view : List (List Mark) → rules.Marks
marks_view marks n p = slice_index_or (slice_index_or marks n []) p Unmarked

abbrev pub cell_view : Cell → rules.Cell
cell_view Waiting = rules.waiting
cell_view Deaf = rules.deaf
cell_view (Wrote ports at) = rules.wrote ports at

abbrev pub cells_view : ℕ → List Cell → List rules.Cell
cells_view count cells = map cell_view (take count cells)

-- Whether a cell was written in cycle c.
abbrev pub reached_by : ℕ → Cell → Bool
reached_by c Waiting = false
reached_by c Deaf = false
reached_by c (Wrote ports at) = at == c
