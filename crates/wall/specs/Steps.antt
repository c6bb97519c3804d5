-- What a step of a wall answers, and what it leaves in the wall, the tray and the chooser.
use Rattle.std.specs.Prelude.{◌≡◌, ℕ, List, length, Ok, Err, Result}
use Rattle.wiring.specs.Layout.{Layout}
use Rattle.chooser.specs.declared.ports.PortSet.{PortSet}
use Rattle.tray.specs.declared.types.Tray.{Tray}
use Rattle.tray.specs.Filled.{rest, Puts}
use Rattle.rules.specs.declared.Outcome.{Outcome}
use Rattle.rules.specs.declared.Refusal.{Refusal}
use Rattle.rules.specs.declared.StepCounts.{StepCounts}
use Rattle.rules.specs.Ports.{Ports}
use Rattle.rules.specs.State.{State}
use Rattle.rules.specs.Runs.{step, stepped, refused, Steps, Does}
use Rattle.traffic.specs.Choosing.{Answered}

module _ {C : Type 0} (picks : C → PortSet → ℕ → C → Type 0) (layout : Layout) where
  -- An accepted step does what the rules say with the free places of its tray; its outcomes are
  -- just what was put into the tray, and its picks are the chooser's own answers in order.
  pub record StepAccepted (counts : StepCounts) (s : State) (tray : Tray Outcome) (c : C) (s' : State) (tray' : Tray Outcome) (c' : C) : Type 0 where
    pub outcomes : List Outcome
    pub crossed : List ℕ
    pub asked : List (Ports × ℕ)
    pub does : Does layout s (step (length (rest tray))) (stepped counts outcomes crossed) s'
    pub steps : Steps layout s counts outcomes crossed asked s'
    pub puts : Puts outcomes tray tray'
    pub answered : Answered picks asked c c'

  -- A refused step leaves the wall, the tray and the chooser as they stood.
  pub record StepTurned (reason : Refusal) (s : State) (tray : Tray Outcome) (c : C) (s' : State) (tray' : Tray Outcome) (c' : C) : Type 0 where
    pub does : Does layout s (step (length (rest tray))) (refused reason) s'
    pub tray_stays : tray' ≡ tray
    pub chooser_stays : c' ≡ c

  abbrev pub StepCall : Result StepCounts Refusal → State → Tray Outcome → C → State → Tray Outcome → C → Type 0
  StepCall (Ok counts) s tray c s' tray' c' = StepAccepted counts s tray c s' tray' c'
  StepCall (Err reason) s tray c s' tray' c' = StepTurned reason s tray c s' tray' c'
