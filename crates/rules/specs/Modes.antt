-- The root under which a node recovers or serves.
use Rattle.std.specs.Prelude.{ℕ, Some, None, Option}
use Rattle.rules.specs.declared.Mode.{Mode}
use Rattle.rules.specs.declared.Mode.TheVariants.{New, Recovering, Serving}

abbrev pub root_in : Mode → Option ℕ
root_in New = None
root_in (Recovering root left) = Some root
root_in (Serving root) = Some root
