-- Far ends that a wall of at most 64 nodes can have.
use Rattle.std.specs.Prelude.{ℕ, Bool, true, ◌&&◌, List, [], ◌∷◌, Some, None, Option, nat_lt}

abbrev pub fits : Option (ℕ × ℕ) → Bool
fits None = true
fits (Some (node, port)) = nat_lt node 64 && nat_lt port 4

-- Every far end in a table is below 64 and 4.
abbrev pub all_fit : List (Option (ℕ × ℕ)) → Bool
all_fit [] = true
all_fit (end ∷ ends) = fits end && all_fit ends
