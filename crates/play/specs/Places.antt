-- The tray that a call of a script gets.
use Rattle.std.specs.Prelude.{ℕ, min}
use Rattle.script.specs.declared.line.Call.{Call}
use Rattle.script.specs.declared.line.Call.TheVariants.{Cut, Hand, Slot, Post, Step}

-- A step has as many places as it says, and no more than a wall has packets; the others have none.
abbrev pub places_of : Call → ℕ
places_of (Cut n p) = 0
places_of (Hand n) = 0
places_of Slot = 0
places_of (Post s d w) = 0
places_of (Step free) = min free 256
