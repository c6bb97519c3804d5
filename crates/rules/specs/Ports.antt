-- Sets of ports, and lists made from a function of the node.
use Rattle.std.specs.Prelude.{ℕ, Bool, false, not, ◌&&◌, ◌||◌, List, [], ◌∷◌, map, ◌==◌, slice_index_or}
use Rattle.std.specs.List.{range_with_len}

-- A set of ports: for each of the ports 0 to 3, whether it is in the set.
abbrev pub Ports : Type 0
Ports = List Bool

abbrev pub has : Ports → ℕ → Bool
has ports p = slice_index_or ports p false

-- The ports of which a test holds.
unfoldable pub ports_where : (ℕ → Bool) → Ports
ports_where test = test 0 ∷ test 1 ∷ test 2 ∷ test 3 ∷ []

-- Whether there is any port in the set.
unfoldable pub some_port : Ports → Bool
some_port ports = has ports 0 || has ports 1 || has ports 2 || has ports 3

-- The set less one port.
unfoldable pub without : Ports → ℕ → Ports
without ports p = ports_where (λ q. has ports q && not (q == p))

-- The list of f 0, f 1, .. for the nodes below a count.
unfoldable pub table : {X : Type 0} → ℕ → (ℕ → X) → List X
table n f = map f (range_with_len 0 n)
