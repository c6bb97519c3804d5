-- How calls and questions are written.
use Rattle.std.specs.Prelude.{ℕ, List, ◌++◌, codes, decimal}
use Rattle.script.specs.declared.line.Call.{Call}
use Rattle.script.specs.declared.line.Call.TheVariants.{Cut, Hand, Slot, Post, Step}
use Rattle.script.specs.declared.line.Question.{Question}
use Rattle.script.specs.declared.line.Question.TheVariants.{Mode, Entry, Marks, Hands, Calm, Flight}

-- A slot and a step stand without their optional number.
abbrev pub call_text : Call → List ℕ
call_text (Cut n p) = codes "cut " ++ (decimal n ++ (codes " " ++ decimal p))
call_text (Hand n) = codes "hand " ++ decimal n
call_text Slot = codes "slot"
call_text (Post s d w) = codes "post " ++ (decimal s ++ (codes " " ++ (decimal d ++ (codes " " ++ decimal w))))
call_text (Step free) = codes "step"

abbrev pub question_text : Question → List ℕ
question_text (Mode n) = codes "mode " ++ decimal n
question_text (Entry n d) = codes "entry " ++ (decimal n ++ (codes " " ++ decimal d))
question_text (Marks n) = codes "marks " ++ decimal n
question_text Hands = codes "hands"
question_text Calm = codes "calm"
question_text Flight = codes "flight"
