-- The line that answers a question, at the numbers that the script has.
use Rattle.std.specs.Prelude.{◌≡◌, ℕ, zero, suc, Bool, cond, List, [], ◌∷◌, ◌++◌, Ok, Err, Decides, Option, Result}
use Rattle.wiring.specs.Layout.{Layout}
use Rattle.chooser.specs.declared.ports.PortSet.{PortSet}
use Rattle.rules.specs.declared.Mark.{Mark}
use Rattle.rules.specs.declared.Mode.{Mode as NodeMode}
use Rattle.rules.specs.declared.Refusal.{Refusal}
use Rattle.rules.specs.State.{Node, State, node_of, entry_of}
use Rattle.rules.specs.Promise as promise
use Rattle.script.specs.declared.line.Question.{Question}
use Rattle.script.specs.declared.line.Question.TheVariants.{Mode, Entry, Marks, Hands, Calm, Flight}
use Rattle.reply.specs.declared.types.Answer.{Answer}
use Rattle.reply.specs.declared.types.Answer.TheVariants as answer
use Rattle.reply.specs.Text.{answer_line, hands_line, flight_line}
use Rattle.wall.specs.Answers.{asked_of, entry_answer}

-- A wall's answer, or its refusal.
abbrev pub answered : {T : Type 0} → (T → Answer) → Result T Refusal → Result Answer Refusal
answered f (Ok x) = Ok (f x)
answered f (Err reason) = Err reason

abbrev pub mode_told : Result NodeMode Refusal → Result Answer Refusal
mode_told r = answered (λ m. answer.Mode m) r

abbrev pub entry_told : Result (Option (PortSet × ℕ)) Refusal → Result Answer Refusal
entry_told r = answered (λ e. answer.Entry e) r

abbrev pub marks_told : Result (List Mark) Refusal → Result Answer Refusal
marks_told r = answered (λ ms. answer.Marks ms) r

-- The nodes below a number whose hands are up.
unfoldable pub hands_below : List Node → ℕ → List ℕ
hands_below nodes zero = []
hands_below nodes (suc k) = hands_below nodes k ++ cond (node_of nodes k).hand (k ∷ []) []

abbrev pub Asks : Layout → State → Question → List ℕ → Type 0
Asks layout s (Mode n) line = line ≡ answer_line (Mode n) (mode_told (asked_of layout n (node_of s.nodes n).mode))
Asks layout s (Entry n d) line = line ≡ answer_line (Entry n d) (entry_told (entry_answer layout n d (entry_of s.nodes n d)))
Asks layout s (Marks n) line = line ≡ answer_line (Marks n) (marks_told (asked_of layout n (node_of s.nodes n).marks))
Asks layout s Hands line = line ≡ hands_line (hands_below s.nodes layout.count)
Asks layout s Calm line = (calm : Bool) × Decides calm (promise.Calm layout s) × (line ≡ answer_line Calm (Ok (answer.Calm calm)))
Asks layout s Flight line = line ≡ flight_line s.packets
