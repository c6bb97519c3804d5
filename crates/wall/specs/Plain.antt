-- What the plain part of a wall does, said of every wiring with so many nodes.
use Rattle.std.specs.Prelude.{◌≡◌, ℕ, List, Option}
use Rattle.wiring.specs.Layout.{Layout, Sound}
use Rattle.rules.specs.Runs.{Call, Reply, Does}
use Rattle.flood.specs.View.{wired}
use Rattle.wall.specs.declared.inner.Core.{Core}
use Rattle.wall.specs.View.{state_of}

-- A fact of every wiring with so many nodes.
abbrev pub OfCount : ℕ → (Layout → Type 0) → Type 0
OfCount count Fact = (layout : Layout) → Sound layout → count ≡ layout.count → Fact layout

-- A fact of the wiring with so many nodes and these far ends.
abbrev pub OfEnds : ℕ → List (Option (ℕ × ℕ)) → (Layout → Type 0) → Type 0
OfEnds count ends Fact = (layout : Layout) → Sound layout → count ≡ layout.count → wired layout.count ends ≡ layout → Fact layout

-- The call does what the rules say, on a wall with this wiring.
abbrev pub Called : Core → Call → Reply → Core → Layout → Type 0
Called before call reply after layout = Does layout (state_of layout before) call reply (state_of layout after)
