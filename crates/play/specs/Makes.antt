-- The lines that are printed of a call.
use Rattle.std.specs.Prelude.{◌≡◌, ℕ, [], length, IfOk, string_bytes, Result, String}
use Rattle.std.specs.declared.alloc.AllocError.{AllocError}
use Rattle.std.specs.declared.alloc.Global.{Global}
use Rattle.wiring.specs.Layout.{Layout}
use Rattle.chooser.specs.declared.ports.PortSet.{PortSet}
use Rattle.tray.specs.declared.types.Tray.{Tray}
use Rattle.tray.specs.Filled.{filled, rest}
use Rattle.rules.specs.declared.Outcome.{Outcome}
use Rattle.rules.specs.declared.Refusal.{Refusal}
use Rattle.rules.specs.State.{State}
use Rattle.script.specs.declared.line.Call.{Call}
use Rattle.reply.specs.declared.types.Reply.{Reply}
use Rattle.reply.specs.Text.{step_lines}
use Rattle.play.specs.Performs.{Performs}
use Rattle.play.specs.Places.{places_of}

-- The call is made on the wall with an empty tray of its places; the lines are the call with its
-- reply, and what is in the tray then.
pub record Makes {C : Type 0} (picks : C → PortSet → ℕ → C → Type 0) (layout : Layout) (call : Call) (s : State) (c : C) (s' : State) (c' : C) (lines : Result (String Global) AllocError) : Type 0 where
  pub reply : Result Reply Refusal
  pub before : Tray Outcome
  pub after : Tray Outcome
  pub empty : filled before ≡ []
  pub places : length (rest before) ≡ places_of call
  pub performs : Performs picks layout call reply s before c s' after c'
  pub text : IfOk lines (λ t. string_bytes t ≡ step_lines call reply (filled after))
