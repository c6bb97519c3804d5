-- The numbers and letters by which the answers of a wall are known outside it.
use Rattle.std.specs.Prelude.{ℕ}
use Rattle.rules.specs.declared.Act.{Act}
use Rattle.rules.specs.declared.Act.TheVariants.{Silent, Root, Member}
use Rattle.rules.specs.declared.Ending.{Ending}
use Rattle.rules.specs.declared.Ending.TheVariants.{Delivered, Returned}
use Rattle.rules.specs.declared.Mark.{Mark}
use Rattle.rules.specs.declared.Mark.TheVariants.{Unmarked, Up, Down}
use Rattle.rules.specs.declared.Mode.{Mode}
use Rattle.rules.specs.declared.Mode.TheVariants.{New, Recovering, Serving}
use Rattle.rules.specs.declared.Refusal.{Refusal}
use Rattle.rules.specs.declared.Refusal.TheVariants.{NodeOutOfRange, PortOutOfRange, SameNode, TrayTooSmall, NoCable, AlreadyCut, SourceNotServing, NoEntry, WallFull, NumbersUsedUp}

abbrev pub act_number : Act → ℕ
act_number Silent = 0
act_number Root = 1
act_number Member = 2

abbrev pub ending_number : Ending → ℕ
ending_number Delivered = 1
ending_number Returned = 2

-- A wall's refusals follow on those of its wiring, which end with 11. Up to 15 the input is at
-- fault, from 16 on the state of the wall.
abbrev pub refusal_number : Refusal → ℕ
refusal_number NodeOutOfRange = 12
refusal_number PortOutOfRange = 13
refusal_number SameNode = 14
refusal_number TrayTooSmall = 15
refusal_number NoCable = 16
refusal_number AlreadyCut = 17
refusal_number SourceNotServing = 18
refusal_number NoEntry = 19
refusal_number WallFull = 20
refusal_number NumbersUsedUp = 21

-- The letters N, R and S, as ASCII codes.
abbrev pub mode_letter : Mode → ℕ
mode_letter New = 78
mode_letter (Recovering root left) = 82
mode_letter (Serving root) = 83

-- The characters -, u and d, as ASCII codes.
abbrev pub mark_letter : Mark → ℕ
mark_letter Unmarked = 45
mark_letter Up = 117
mark_letter Down = 100
