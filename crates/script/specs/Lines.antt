-- What each line of a script says.
use Rattle.std.specs.Prelude.{◌≡◌, ℕ, zero, suc, ◌^◌, Bool, true, false, cond, List, [], length, slice_index, option_and_then, Some, None, Ok, Err, vec_items, codes, Option, Result, ◌==◌, nat_lt}
use Rattle.std.specs.Bool.{then_some}
use Rattle.std.specs.Option.{option_map}
use Rattle.std.specs.Str.{bytes_eq}
use Rattle.script.specs.declared.line.Call.{Call}
use Rattle.script.specs.declared.line.Call.TheVariants.{Cut, Hand, Slot, Post, Step}
use Rattle.script.specs.declared.line.Calls.{Calls}
use Rattle.script.specs.declared.line.Question.{Question}
use Rattle.script.specs.declared.line.Question.TheVariants.{Mode, Entry, Marks, Hands, Calm, Flight}
use Rattle.script.specs.declared.line.Picker.{Picker}
use Rattle.script.specs.declared.line.Picker.TheVariants.{Lowest, Round}
use Rattle.script.specs.declared.line.Line.{Line}
use Rattle.script.specs.declared.line.Line.TheVariants as line
use Rattle.script.specs.declared.trouble.Trouble.{Trouble}
use Rattle.script.specs.declared.trouble.Trouble.TheVariants.{CannotRead, OutOfMemory}
use Rattle.script.specs.Words.{code_of, first_word, past_word}
use Rattle.script.specs.Numbers.{number_of, put_before, bytes_of}

-- Whether a text has no word.
abbrev pub no_word : List ℕ → Bool
no_word text = length (first_word text) == 0

-- What was read, where nothing comes behind it.
abbrev pub if_last : {X : Type 0} → Bool → Option X → Option X
if_last true x = x
if_last false x = None

-- A text of so many numbers, and of nothing else.
unfoldable pub numbers_of : ℕ → List ℕ → Option (List ℕ)
numbers_of zero text = then_some (no_word text) []
numbers_of (suc n) text = put_before (number_of (first_word text)) (numbers_of n (past_word text))

-- Calls

abbrev pub once_call : Call → Calls
once_call call = record { call = call; times = 1 }

abbrev pub cut_call : List ℕ → Calls
cut_call ns = once_call (Cut (slice_index ns 0) (slice_index ns 1))

abbrev pub hand_call : List ℕ → Calls
hand_call ns = once_call (Hand (slice_index ns 0))

abbrev pub post_call : List ℕ → Calls
post_call ns = once_call (Post (slice_index ns 0) (slice_index ns 1) (slice_index ns 2))

abbrev pub step_call : ℕ → Calls
step_call free = once_call (Step free)

-- A slot is repeated at most 65535 times.
abbrev pub slots : ℕ → Option Calls
slots times = then_some (nat_lt times (2 ^ 16)) (record { call = Slot; times = times })

-- The free places of a step's tray where none are written.
abbrev pub whole_tray : ℕ
whole_tray = 256

-- A number that may be left out.
abbrev pub number_or : ℕ → List ℕ → Option ℕ
number_or default text = cond (no_word text) (Some default) (option_map (λ ns. slice_index ns 0) (numbers_of 1 text))

unfoldable pub call_of : List ℕ → List ℕ → Option Calls
call_of name rest =
    cond (bytes_eq name (codes "cut")) (option_map cut_call (numbers_of 2 rest))
    (cond (bytes_eq name (codes "hand")) (option_map hand_call (numbers_of 1 rest))
    (cond (bytes_eq name (codes "slot")) (option_and_then slots (number_or 1 rest))
    (cond (bytes_eq name (codes "post")) (option_map post_call (numbers_of 3 rest))
    (cond (bytes_eq name (codes "step")) (option_map step_call (number_or whole_tray rest)) None))))

-- Questions

abbrev pub mode_question : List ℕ → Question
mode_question ns = Mode (slice_index ns 0)

abbrev pub entry_question : List ℕ → Question
entry_question ns = Entry (slice_index ns 0) (slice_index ns 1)

abbrev pub marks_question : List ℕ → Question
marks_question ns = Marks (slice_index ns 0)

unfoldable pub question_of : List ℕ → List ℕ → Option Question
question_of name rest =
    cond (bytes_eq name (codes "mode")) (option_map mode_question (numbers_of 1 rest))
    (cond (bytes_eq name (codes "entry")) (option_map entry_question (numbers_of 2 rest))
    (cond (bytes_eq name (codes "marks")) (option_map marks_question (numbers_of 1 rest))
    (cond (bytes_eq name (codes "hands")) (then_some (no_word rest) Hands)
    (cond (bytes_eq name (codes "calm")) (then_some (no_word rest) Calm)
    (cond (bytes_eq name (codes "flight")) (then_some (no_word rest) Flight) None)))))

-- Lines

-- What a line can say.
pub data Meaning : Type 0 where
  blank : Meaning
  mesh : ℕ → ℕ → Meaning
  cables : List ℕ → Meaning
  chooser : Picker → Meaning
  make : Calls → Meaning
  ask : Question → Meaning

abbrev pub meaning : Line → Meaning
meaning line.Blank = blank
meaning (line.Mesh columns rows) = mesh columns rows
meaning (line.Cables bytes) = cables (vec_items bytes)
meaning (line.Chooser picker) = chooser picker
meaning (line.Make calls) = make calls
meaning (line.Ask question) = ask question

abbrev pub mesh_meaning : List ℕ → Meaning
mesh_meaning ns = mesh (slice_index ns 0) (slice_index ns 1)

abbrev pub picker_named : List ℕ → Option Picker
picker_named word =
    cond (bytes_eq word (codes "lowest")) (Some Lowest)
    (cond (bytes_eq word (codes "round")) (Some Round) None)

abbrev pub picker_of : List ℕ → Option Picker
picker_of rest = if_last (no_word (past_word rest)) (picker_named (first_word rest))

abbrev pub cables_of : List ℕ → Option (List ℕ)
cables_of rest = if_last (no_word (past_word rest)) (bytes_of (first_word rest))

-- The first that is there.
abbrev pub first_of : {X : Type 0} → Option X → Option X → Option X
first_of None b = b
first_of (Some x) b = Some x

unfoldable pub named_meaning : List ℕ → List ℕ → Option Meaning
named_meaning name rest =
    cond (bytes_eq name (codes "mesh")) (option_map mesh_meaning (numbers_of 2 rest))
    (cond (bytes_eq name (codes "cables")) (option_map cables (cables_of rest))
    (cond (bytes_eq name (codes "chooser")) (option_map chooser (picker_of rest))
    (first_of (option_map make (call_of name rest)) (option_map ask (question_of name rest)))))

-- A line without its comment: blank, or a name and what follows it.
abbrev pub code_meaning : List ℕ → Option Meaning
code_meaning code = cond (no_word code) (Some blank) (named_meaning (first_word code) (past_word code))

abbrev pub meaning_of : List ℕ → Option Meaning
meaning_of line = code_meaning (code_of line)

-- Only a wall file takes memory.
abbrev pub TakesMemory : Option Meaning → Type 0
TakesMemory None = Unit {0}
TakesMemory (Some blank) = ⊥
TakesMemory (Some (mesh columns rows)) = ⊥
TakesMemory (Some (cables bytes)) = Unit {0}
TakesMemory (Some (chooser picker)) = ⊥
TakesMemory (Some (make calls)) = ⊥
TakesMemory (Some (ask question)) = ⊥

-- What a reader of lines answers: the line, that it cannot read it, or that there is no memory for it.
abbrev pub Says : Option Meaning → Result Line Trouble → Type 0
Says said (Ok line) = said ≡ Some (meaning line)
Says said (Err CannotRead) = said ≡ None
Says said (Err OutOfMemory) = TakesMemory said
