-- What it is for a file to spell a wiring: the header, then its cables in any order and either end
-- first, each between two nodes that there are, and no port twice.
use Rattle.std.specs.Prelude.{◌≡◌, ℕ, ◌<◌, ◌≤◌, ◌⊎◌, List, [], ◌∷◌, length, Some, ◌≢◌}
use Rattle.wiring.specs.Layout.{Layout}
use Rattle.wiring.specs.declared.cable.Cable.{Cable}

-- A cable runs between two ends, either end first.
abbrev pub Between : Cable → ℕ × ℕ → ℕ × ℕ → Type 0
Between c x y = ((c.start ≡ x) × (c.end ≡ y)) ⊎ ((c.end ≡ x) × (c.start ≡ y))

-- One of the cables runs between two ends.
abbrev pub Joined : List Cable → ℕ × ℕ → ℕ × ℕ → Type 0
Joined [] x y = ⊥
Joined (c ∷ cs) x y = Between c x y ⊎ Joined cs x y

-- A cable's nodes and ports are in range, and its ends are on two nodes.
pub record Good (nodes : ℕ) (c : Cable) : Type 0 where
  pub start_node : c.start.0 < nodes
  pub start_port : c.start.1 < 4
  pub end_node : c.end.0 < nodes
  pub end_port : c.end.1 < 4
  pub two_nodes : c.start.0 ≡ c.end.0 → ⊥

-- No cable is at this end.
abbrev pub Free : List Cable → ℕ × ℕ → Type 0
Free [] x = Unit {0}
Free (c ∷ cs) x = (c.start ≢ x) × (c.end ≢ x) × Free cs x

-- Every cable is good, and no port has two of them.
abbrev pub Apart : ℕ → List Cable → Type 0
Apart nodes [] = Unit {0}
Apart nodes (c ∷ cs) = Good nodes c × Free cs c.start × Free cs c.end × Apart nodes cs

-- The cables' bytes: node, port, node, port.
abbrev pub cable_bytes : List Cable → List ℕ
cable_bytes [] = []
cable_bytes (c ∷ cs) = c.start.0 ∷ c.start.1 ∷ c.end.0 ∷ c.end.1 ∷ cable_bytes cs

-- The file of so many nodes and these cables: the mark TWL, version 1 in two bytes with the high one
-- first, the two counts, and the cables.
abbrev pub file_of : ℕ → List Cable → List ℕ
file_of nodes cables = 0x54 ∷ 0x57 ∷ 0x4C ∷ 0 ∷ 1 ∷ nodes ∷ length cables ∷ cable_bytes cables

pub record Spells (bytes : List ℕ) (l : Layout) : Type 0 where
  pub cables : List Cable
  pub written : bytes ≡ file_of l.count cables
  pub some_nodes : 1 ≤ l.count
  pub few_nodes : l.count ≤ 64
  pub few_cables : length cables ≤ 128
  pub apart : Apart l.count cables
  -- a port leads where a cable does, and nowhere else
  pub leads : (n p m q : ℕ) → l.far n p ≡ Some (m, q) → Joined cables (n, p) (m, q)
  pub led : (n p m q : ℕ) → Joined cables (n, p) (m, q) → l.far n p ≡ Some (m, q)

-- A file spells this wiring and no other.
pub record Spelling (bytes : List ℕ) (l : Layout) : Type 0 where
  pub spells : Spells bytes l
  pub alone : (k : Layout) → Spells bytes k → l ≡ k

-- A file spells no wiring.
abbrev pub Unspelled : List ℕ → Type 0
Unspelled bytes = (l : Layout) → Spells bytes l → ⊥
