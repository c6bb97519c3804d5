-- What it is to write on a sheet: a tray that has room.
use Rattle.std.specs.Prelude.{◌≡◌, ℕ, ◌+◌, ◌≤◌, List, length}
use Rattle.tray.specs.declared.types.Tray.{Tray}
use Rattle.tray.specs.Filled.{filled, rest}

-- This text now stands on the sheet. It took at most so many places.
pub record Writes (most : ℕ) (text : List ℕ) (before after : Tray ℕ) : Type 0 where
  pub text_is : filled after ≡ text
  pub long : length (filled after) ≤ length (filled before) + most
  pub room : length (rest before) ≤ length (rest after) + most
