-- The questions that a step puts to its chooser, and what is decided by the answers.
-- `picks before offer port after` is what a chooser allows: offered these ports, it answers this
-- port and remembers another value.
use Rattle.std.specs.Prelude.{◌≡◌, ℕ, ◌<◌, false, List, [], ◌∷◌, Some, None, MatchBool, Option, slice_index_or}
use Rattle.wiring.specs.Layout.{Layout}
use Rattle.chooser.specs.declared.ports.PortSet.{PortSet}
use Rattle.chooser.specs.PortSets as chooser
use Rattle.rules.specs.declared.Packet.{Packet}
use Rattle.rules.specs.Ports.{Ports, some_port}
use Rattle.rules.specs.State.{Node}
use Rattle.rules.specs.Step as rules
use Rattle.traffic.specs.declared.types.Fate.{Fate}
use Rattle.traffic.specs.declared.types.Fate.TheVariants.{Waits, Delivered, Returned, Crosses}

-- The set in which these ports are offered.
abbrev pub offer_set : Ports → PortSet
offer_set ports = chooser.ports_where (λ p. slice_index_or ports p false)

abbrev pub fate_view : Fate → rules.Fate
fate_view Waits = rules.waits
fate_view Delivered = rules.delivered
fate_view Returned = rules.returned
fate_view (Crosses node port) = rules.crosses node port

-- Where the cable of the picked port leads.
abbrev pub landing : Option (ℕ × ℕ) → Fate
landing None = Waits
landing (Some far) = Crosses far.0 far.1

-- A packet that crosses a cable comes to one of four ports of a node below 64.
abbrev pub LandsInside : rules.Fate → Type 0
LandsInside rules.waits = Unit {0}
LandsInside rules.delivered = Unit {0}
LandsInside rules.returned = Unit {0}
LandsInside (rules.crosses node port) = (node < 64) × (port < 4)

module _ {C : Type 0} (picks : C → PortSet → ℕ → C → Type 0) where
  -- An offer and the pick from it: the chooser's own answer; where nothing is offered the pick is
  -- 0 and the chooser stays as it was.
  abbrev pub Asked : Ports × ℕ → C → C → Type 0
  Asked ask before after =
      MatchBool (some_port ask.0) (picks before (offer_set ask.0) ask.1 after) ((ask.1 ≡ 0) × (after ≡ before))

  -- Offers with their picks, one after another.
  abbrev pub Answered : List (Ports × ℕ) → C → C → Type 0
  Answered [] before after = after ≡ before
  Answered (ask ∷ asked) before after = (middle : C) × (Asked ask before middle × Answered asked middle after)

  -- Whether and where a packet at node n crosses with these ports offered.
  pub record Crossed (layout : Layout) (n : ℕ) (offer : Ports) (fate : rules.Fate) (before after : C) : Type 0 where
    pub pick : ℕ
    pub fated : fate ≡ rules.crossing layout n offer pick
    pub asked : Asked (offer, pick) before after

  -- What happens to a packet in a step, by the chooser's answer to what it is offered.
  pub record Decided (layout : Layout) (nodes : List Node) (others : List Packet) (x : Packet) (fate : rules.Fate) (before after : C) : Type 0 where
    pub pick : ℕ
    pub fated : fate ≡ rules.fate layout nodes others pick x
    pub asked : Asked (rules.offer_for layout nodes others x, pick) before after
