-- What a wiring means: how many nodes there are, and where each port's cable leads.
use Rattle.std.specs.Prelude.{◌≡◌, ℕ, ◌<◌, ◌≤◌, Some, Option, ◌≢◌}

-- A far end is a node and a port.
pub record Layout : Type 0 where
  pub count : ℕ
  pub far : ℕ → ℕ → Option (ℕ × ℕ)

-- The four facts that every wiring keeps. That nothing leads out of a node or port out of range
-- follows from them (`only_inside` in specs/Sound).
pub record Sound (l : Layout) : Type 0 where
  -- the node count is in range
  pub some_nodes : 1 ≤ l.count
  pub few_nodes : l.count ≤ 64
  -- every far end is in range
  pub in_range : (n p m q : ℕ) → l.far n p ≡ Some (m, q) → (m < l.count) × (q < 4)
  -- the far end of a far end is the start
  pub returns : (n p m q : ℕ) → l.far n p ≡ Some (m, q) → l.far m q ≡ Some (n, p)
  -- no cable joins a node to itself
  pub no_self : (n p m q : ℕ) → l.far n p ≡ Some (m, q) → m ≢ n
