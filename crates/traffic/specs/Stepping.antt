-- What a step answers and leaves behind, on the code's values.
use Rattle.std.specs.Prelude.{◌≡◌, ℕ, ◌<◌, ◌≤◌, List, length}
use Rattle.wiring.specs.Layout.{Layout}
use Rattle.chooser.specs.declared.ports.PortSet.{PortSet}
use Rattle.tray.specs.declared.types.Tray.{Tray}
use Rattle.tray.specs.Filled as tray
use Rattle.rules.specs.declared.Outcome.{Outcome}
use Rattle.rules.specs.declared.Refusal.{Refusal}
use Rattle.rules.specs.declared.Refusal.TheVariants.{TrayTooSmall}
use Rattle.rules.specs.declared.StepCounts.{StepCounts}
use Rattle.rules.specs.Ports.{Ports}
use Rattle.rules.specs.Runs.{Steps}
use Rattle.board.specs.declared.types.Board.{Board}
use Rattle.traffic.specs.declared.types.Flight.{Flight}
use Rattle.traffic.specs.Choosing.{Answered}
use Rattle.traffic.specs.View.{packets_view, state}

-- What a step that is not refused answers and leaves behind: it does what the rules say, for every
-- next owner; what it puts into the tray are the outcomes, in order and behind what stood there;
-- and its picks are the chooser's own answers in order.
pub record StepDone {C : Type 0} (picks : C → PortSet → ℕ → C → Type 0) (layout : Layout) (board : Board) (counts : StepCounts)
    (flight : Flight) (held : Tray Outcome) (c : C) (flight' : Flight) (held' : Tray Outcome) (c' : C) : Type 0 where
  pub room : length (packets_view flight) ≤ length (tray.rest held)
  pub outcomes : List Outcome
  pub crossed : List ℕ
  pub asked : List (Ports × ℕ)
  pub steps : (owner : ℕ) → Steps layout (state board owner flight) counts outcomes crossed asked (state board owner flight')
  pub puts : tray.Puts outcomes held held'
  pub answered : Answered picks asked c c'

-- A step is refused only for want of places in the tray, and leaves everything as it stood.
pub record StepRefused {C : Type 0} (reason : Refusal)
    (flight : Flight) (held : Tray Outcome) (c : C) (flight' : Flight) (held' : Tray Outcome) (c' : C) : Type 0 where
  pub too_small : length (tray.rest held) < length (packets_view flight)
  pub why : reason ≡ TrayTooSmall
  pub flight_stays : flight' ≡ flight
  pub tray_stays : held' ≡ held
  pub chooser_stays : c' ≡ c
