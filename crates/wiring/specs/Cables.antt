-- A table of far ends, and the wiring that it means.
use Rattle.std.specs.Prelude.{ℕ, ◌+◌, ◌*◌, cond, ◌&&◌, List, replicate, Some, None, Option, nat_lt, slice_index_or, slice_set}
use Rattle.wiring.specs.Layout.{Layout}
use Rattle.wiring.specs.declared.cable.Cable.{Cable}

-- A table has four places for each of 64 nodes: where each port leads.
abbrev pub Table : Type 0
Table = List (Option (ℕ × ℕ))

abbrev pub slot : ℕ × ℕ → ℕ
slot end = 4 * end.0 + end.1

abbrev pub bare : Table
bare = replicate 256 None

-- The table with one more cable in it, at both of its ends.
abbrev pub join : Table → Cable → Table
join ends c = slice_set (slice_set ends (slot c.start) (Some c.end)) (slot c.end) (Some c.start)

-- The wiring of so many nodes and these far ends.
abbrev pub cabled : ℕ → Table → Layout
cabled count ends = record {
  count = count;
  far = λ n p. cond (nat_lt n count && nat_lt p 4) (slice_index_or ends (slot (n, p)) None) None;
}

-- One node and no cable.
abbrev pub lone : Layout
lone = record { count = 1; far = λ n p. None }
