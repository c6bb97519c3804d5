-- The bytes of a wall file while it is written: a stretch of 519 bytes, filled from the front.
use Rattle.std.specs.Prelude.{ℕ, ◌+◌, ◌*◌, List, set, replicate, slice_index}
use Rattle.wiring.specs.declared.cable.Cable.{Cable}

-- the header of a file of so many nodes and no cable: the mark TWL, version 1, the counts
abbrev pub bare_file : ℕ → List ℕ
bare_file nodes = set (set (set (set (set (replicate 519 0) 0 0x54) 1 0x57) 2 0x4c) 4 1) 5 nodes

-- how many cables a file has, by its header
abbrev pub cables_in : List ℕ → ℕ
cables_in bytes = slice_index bytes 6

-- with one cable more behind k others, and the count of them
abbrev pub with_cable : List ℕ → ℕ → Cable → List ℕ
with_cable bytes k c =
    set (set (set (set (set bytes (7 + 4 * k) c.start.0) (7 + 4 * k + 1) c.start.1) (7 + 4 * k + 2) c.end.0) (7 + 4 * k + 3) c.end.1) 6 (k + 1)
