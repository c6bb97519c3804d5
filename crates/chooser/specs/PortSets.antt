-- What is said of a set of ports.
use Rattle.std.specs.Prelude.{ℕ, ◌+◌, ◌*◌, Bool, false, cond, not, ◌||◌, [], ◌∷◌, refl, slice_index_or}
use Rattle.chooser.specs.declared.ports.PortSet.{PortSet}

-- whether port p is in the set; past port 3 none is
abbrev pub has : PortSet → ℕ → Bool
has s p = slice_index_or s.on p false

-- the set of the ports that pass a test
abbrev pub ports_where : (ℕ → Bool) → PortSet
ports_where test = record { on = test 0 ∷ test 1 ∷ test 2 ∷ test 3 ∷ []; four = refl }

-- whether no port is in the set
abbrev pub vacant : PortSet → Bool
vacant s = not (has s 0 || (has s 1 || (has s 2 || has s 3)))

-- 1 for true, 0 for false
abbrev pub bit : Bool → ℕ
bit b = cond b 1 0

-- how many ports are in the set
abbrev pub how_many : PortSet → ℕ
how_many s = bit (has s 0) + bit (has s 1) + bit (has s 2) + bit (has s 3)

-- the set as a number, bit p for port p
abbrev pub bits_of : PortSet → ℕ
bits_of s = bit (has s 0) + 2 * bit (has s 1) + 4 * bit (has s 2) + 8 * bit (has s 3)
