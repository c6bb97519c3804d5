-- How many packets stand at each port.
use Rattle.std.specs.Prelude.{◌≡◌, ℕ, ◌+◌, ◌<◌, ◌≤◌, cond, List, [], ◌∷◌, ◌++◌, slice_index, slice_index_or, Some}
use Rattle.rules.specs.declared.Packet.{Packet}
use Rattle.rules.specs.Step.{stands_at}
use Rattle.traffic.specs.declared.types.Occupancy.{Occupancy}

-- One where the packet stands at port p of node n, else none.
abbrev pub one_at : ℕ → ℕ → Packet → ℕ
one_at n p x = cond (stands_at n p x) 1 0

unfoldable pub standing_at : ℕ → ℕ → List Packet → ℕ
standing_at n p [] = 0
standing_at n p (x ∷ xs) = one_at n p x + standing_at n p xs

-- What an occupancy counts at port p of node n.
abbrev pub counted : Occupancy → ℕ → ℕ → ℕ
counted occupancy n p = slice_index (slice_index_or occupancy.standing n []) p

-- The occupancy counts these packets, at every port.
abbrev pub Counts : Occupancy → List Packet → Type 0
Counts occupancy xs = (n p : ℕ) → n < 64 → p < 4 → counted occupancy n p ≡ standing_at n p xs

-- No count is at the end of its range.
abbrev pub Room : Occupancy → Type 0
Room occupancy = (n p : ℕ) → n < 64 → p < 4 → counted occupancy n p < 65535

-- A packet at a port is counted there.
abbrev pub CountedIn : Occupancy → Packet → Type 0
CountedIn occupancy x = (p : ℕ) → x.standing ≡ Some p → 1 ≤ counted occupancy x.node p

-- Whatever packets were counted, x is counted among them afterwards, or no more.
abbrev pub Arrives : Occupancy → Packet → Occupancy → Type 0
Arrives before x after = (xs ys : List Packet) → Counts before (xs ++ ys) → Counts after (xs ++ x ∷ ys)

abbrev pub Departs : Occupancy → Packet → Occupancy → Type 0
Departs before x after = (xs ys : List Packet) → Counts before (xs ++ x ∷ ys) → Counts after (xs ++ ys)
