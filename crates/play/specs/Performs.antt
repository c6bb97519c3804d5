-- What becomes of a call of a script: just what the rules say of it, at the numbers that the script
-- has, however large.
use Rattle.std.specs.Prelude.{◌≡◌, ℕ, [], Ok, Err, Result}
use Rattle.wiring.specs.Layout.{Layout}
use Rattle.chooser.specs.declared.ports.PortSet.{PortSet}
use Rattle.tray.specs.declared.types.Tray.{Tray}
use Rattle.rules.specs.declared.Outcome.{Outcome}
use Rattle.rules.specs.declared.Refusal.{Refusal}
use Rattle.rules.specs.State.{State}
use Rattle.rules.specs.Runs as runs
use Rattle.rules.specs.Runs.{Does}
use Rattle.script.specs.declared.line.Call.{Call}
use Rattle.script.specs.declared.line.Call.TheVariants.{Cut, Hand, Slot, Post, Step}
use Rattle.reply.specs.declared.types.Reply.{Reply}
use Rattle.reply.specs.declared.types.Reply.TheVariants.{Done, Slotted, Numbered, Stepped}
use Rattle.wall.specs.Steps.{StepAccepted, StepTurned}

-- A reply as the rules have it. Outcomes are told of a step alone.
abbrev pub told : Result Reply Refusal → runs.Reply
told (Err reason) = runs.refused reason
told (Ok Done) = runs.done
told (Ok (Slotted answer)) = runs.slotted answer
told (Ok (Numbered number)) = runs.numbered number
told (Ok (Stepped counts)) = runs.stepped counts [] []

module _ {C : Type 0} (picks : C → PortSet → ℕ → C → Type 0) (layout : Layout) where
  -- A call other than a step leaves the tray and the chooser alone.
  pub record Plainly (call : runs.Call) (reply : Result Reply Refusal) (s : State) (tray : Tray Outcome) (c : C) (s' : State) (tray' : Tray Outcome) (c' : C) : Type 0 where
    pub does : Does layout s call (told reply) s'
    pub tray_stays : tray' ≡ tray
    pub chooser_stays : c' ≡ c

  -- A step, with what it puts into the tray and asks of the chooser.
  abbrev pub StepsSo : Result Reply Refusal → State → Tray Outcome → C → State → Tray Outcome → C → Type 0
  StepsSo (Ok Done) s tray c s' tray' c' = ⊥
  StepsSo (Err reason) s tray c s' tray' c' = StepTurned picks layout reason s tray c s' tray' c'
  StepsSo (Ok (Slotted answer)) s tray c s' tray' c' = ⊥
  StepsSo (Ok (Numbered number)) s tray c s' tray' c' = ⊥
  StepsSo (Ok (Stepped counts)) s tray c s' tray' c' = StepAccepted picks layout counts s tray c s' tray' c'

  abbrev pub Performs : Call → Result Reply Refusal → State → Tray Outcome → C → State → Tray Outcome → C → Type 0
  Performs (Cut n p) reply s tray c s' tray' c' = Plainly (runs.cut n p) reply s tray c s' tray' c'
  Performs (Hand n) reply s tray c s' tray' c' = Plainly (runs.hand n) reply s tray c s' tray' c'
  Performs Slot reply s tray c s' tray' c' = Plainly runs.slot_call reply s tray c s' tray' c'
  Performs (Post source destination word) reply s tray c s' tray' c' =
      Plainly (runs.post source destination word) reply s tray c s' tray' c'
  Performs (Step free) reply s tray c s' tray' c' = StepsSo reply s tray c s' tray' c'
