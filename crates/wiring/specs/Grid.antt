-- What a mesh means, from row and column arithmetic.
use Rattle.std.specs.Prelude.{ℕ, ◌+◌, ◌-◌, ◌*◌, ◌/◌, ◌%◌, ◌≤◌, cond, Some, None, Option, ◌==◌, nat_lt}
use Rattle.wiring.specs.Layout.{Layout}

-- Where each port of the node in a row and a column leads. Port 0 (north) meets port 2 of the node
-- one row earlier, and port 1 (east) meets port 3 of the node one column later.
abbrev pub north : (columns row column : ℕ) → Option (ℕ × ℕ)
north columns row column = cond (nat_lt 0 row) (Some ((row - 1) * columns + column, 2)) None

abbrev pub east : (columns row column : ℕ) → Option (ℕ × ℕ)
east columns row column = cond (nat_lt (column + 1) columns) (Some (row * columns + (column + 1), 3)) None

abbrev pub south : (columns rows row column : ℕ) → Option (ℕ × ℕ)
south columns rows row column = cond (nat_lt (row + 1) rows) (Some ((row + 1) * columns + column, 0)) None

abbrev pub west : (columns row column : ℕ) → Option (ℕ × ℕ)
west columns row column = cond (nat_lt 0 column) (Some (row * columns + (column - 1), 1)) None

abbrev pub beside : (columns rows row column p : ℕ) → Option (ℕ × ℕ)
beside columns rows row column p =
    cond (p == 0) (north columns row column)
    (cond (p == 1) (east columns row column)
    (cond (p == 2) (south columns rows row column)
    (cond (p == 3) (west columns row column) None)))

-- Node n stands in row n div columns and column n mod columns.
abbrev pub grid : (columns rows : ℕ) → Layout
grid columns rows = record {
  count = columns * rows;
  far = λ n p. cond (nat_lt n (columns * rows)) (beside columns rows (n / columns) (n % columns) p) None;
}

-- The sides that a mesh may have.
pub record Sides (columns rows : ℕ) : Type 0 where
  pub some_columns : 1 ≤ columns
  pub few_columns : columns ≤ 8
  pub some_rows : 1 ≤ rows
  pub few_rows : rows ≤ 8
