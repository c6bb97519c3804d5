-- A slot up to its last part: what its owner does and what the broadcast leaves, before every
-- recovery is one slot nearer its end.
use Rattle.std.specs.Prelude.{ℕ, List}
use Rattle.wiring.specs.Layout.{Layout}
use Rattle.rules.specs.declared.Act.{Act}
use Rattle.rules.specs.declared.Act.TheVariants.{Silent, Root, Member}
use Rattle.rules.specs.declared.SlotAnswer.{SlotAnswer}
use Rattle.rules.specs.State.{Node, node_of}
use Rattle.rules.specs.Root.{rooted}
use Rattle.rules.specs.Slot.{act_of, broadcast, heard}

pub record Begun : Type 0 where
  pub answer : SlotAnswer
  pub nodes : List Node

-- The owner broadcasts over these nodes.
unfoldable pub told : Layout → List Node → ℕ → Act → Begun
told layout nodes owner act = record {
  answer = record { owner = owner; act = act; cycles = (broadcast layout nodes owner).cycles };
  nodes = heard layout nodes owner (broadcast layout nodes owner).cells;
}

unfoldable pub begun_by : Layout → List Node → ℕ → Act → Begun
begun_by layout nodes owner Silent = record { answer = record { owner = owner; act = Silent; cycles = 0 }; nodes = nodes }
begun_by layout nodes owner Root = told layout (rooted layout nodes owner) owner Root
begun_by layout nodes owner Member = told layout nodes owner Member

unfoldable pub begun : Layout → List Node → ℕ → Begun
begun layout nodes owner = begun_by layout nodes owner (act_of (node_of nodes owner).mode (node_of nodes owner).hand)
