-- The cables of any wiring, each once and from its lower node, by rising node and port.
use Rattle.std.specs.Prelude.{ℕ, zero, suc, Bool, false, cond, List, [], ◌∷◌, ◌++◌, length, Some, None, Option, nat_lt}
use Rattle.wiring.specs.Layout.{Layout}
use Rattle.wiring.specs.declared.cable.Cable.{Cable}

-- The cable from this node and port to a far end, if this is its lower node.
abbrev pub from_lower : ℕ → ℕ → Option (ℕ × ℕ) → List Cable
from_lower n p None = []
from_lower n p (Some end) = cond (nat_lt n end.0) (record { start = (n, p); end = end } ∷ []) []

-- Whether a far end makes this node the lower one.
abbrev pub begins : ℕ → Option (ℕ × ℕ) → Bool
begins n None = false
begins n (Some end) = nat_lt n end.0

abbrev pub node_cables : Layout → ℕ → List Cable
node_cables l n = from_lower n 0 (l.far n 0) ++ (from_lower n 1 (l.far n 1) ++ (from_lower n 2 (l.far n 2) ++ from_lower n 3 (l.far n 3)))

-- The cables from the first k nodes.
unfoldable pub cables_below : Layout → ℕ → List Cable
cables_below l zero = []
cables_below l (suc k) = cables_below l k ++ node_cables l k

abbrev pub cables_of : Layout → List Cable
cables_of l = cables_below l l.count

abbrev pub cable_count : Layout → ℕ
cable_count l = length (cables_of l)
