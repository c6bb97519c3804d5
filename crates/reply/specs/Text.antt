-- What is printed of every answer.
use Rattle.std.specs.Prelude.{ℕ, Bool, true, false, cond, List, [], ◌∷◌, ◌++◌, length, drop, Some, None, codes, decimal, Option, Result, Ok, Err, ◌==◌, slice_index_or}
use Rattle.std.specs.List.{flat_map}
use Rattle.chooser.specs.PortSets.{has}
use Rattle.chooser.specs.declared.ports.PortSet.{PortSet}
use Rattle.fault.specs.Fault.{fault_number, fault_place}
use Rattle.fault.specs.declared.WallFault.{WallFault}
use Rattle.rules.specs.declared.Ending.{Ending}
use Rattle.rules.specs.declared.Ending.TheVariants.{Delivered, Returned}
use Rattle.rules.specs.declared.Mark.{Mark}
use Rattle.rules.specs.declared.Mark.TheVariants.{Unmarked}
use Rattle.rules.specs.declared.Mode.{Mode}
use Rattle.rules.specs.declared.Mode.TheVariants.{New, Recovering, Serving}
use Rattle.rules.specs.declared.Outcome.{Outcome}
use Rattle.rules.specs.declared.Packet.{Packet}
use Rattle.rules.specs.declared.Refusal.{Refusal}
use Rattle.rules.specs.declared.SlotAnswer.{SlotAnswer}
use Rattle.rules.specs.declared.StepCounts.{StepCounts}
use Rattle.rules.specs.Numbers.{act_number, mark_letter, refusal_number}
use Rattle.script.specs.Shown.{call_text, question_text}
use Rattle.script.specs.declared.line.Call.{Call}
use Rattle.script.specs.declared.line.Question.{Question}
use Rattle.reply.specs.declared.types.Reply.{Reply}
use Rattle.reply.specs.declared.types.Reply.TheVariants.{Done, Slotted, Numbered, Stepped}
use Rattle.reply.specs.declared.types.Answer.{Answer}
use Rattle.reply.specs.declared.types.Answer.TheVariants as answer
use Rattle.reply.specs.declared.types.TurnedDown.{TurnedDown}

-- Calls

abbrev pub slot_text : SlotAnswer → List ℕ
slot_text a = codes "owner " ++ (decimal a.owner ++ (codes " act " ++ (decimal (act_number a.act) ++ (codes " cycles " ++ decimal a.cycles))))

abbrev pub counts_text : StepCounts → List ℕ
counts_text c =
    codes "moved " ++ (decimal c.moved ++ (codes " delivered " ++ (decimal c.delivered
    ++ (codes " returned " ++ (decimal c.returned ++ (codes " waited " ++ decimal c.waited))))))

abbrev pub refusal_text : Refusal → List ℕ
refusal_text r = codes "refused " ++ decimal (refusal_number r)

-- What was asked for, or its refusal.
abbrev pub or_refused : {T : Type 0} → (T → List ℕ) → Result T Refusal → List ℕ
or_refused text (Ok x) = text x
or_refused text (Err r) = refusal_text r

-- The same of a text that may not be known.
abbrev pub or_refused_text : {T : Type 0} → (T → Option (List ℕ)) → Result T Refusal → Option (List ℕ)
or_refused_text text (Ok x) = text x
or_refused_text text (Err r) = Some (refusal_text r)

abbrev pub reply_text : Reply → List ℕ
reply_text Done = codes "ok"
reply_text (Slotted a) = slot_text a
reply_text (Numbered n) = codes "packet " ++ decimal n
reply_text (Stepped c) = counts_text c

-- A call and its reply.
abbrev pub call_line : Call → Result Reply Refusal → List ℕ
call_line call reply = call_text call ++ (codes ": " ++ (or_refused reply_text reply ++ codes "\n"))

abbrev pub ending_word : Ending → List ℕ
ending_word Delivered = codes "delivered"
ending_word Returned = codes "returned"

-- An outcome, under its step.
abbrev pub outcome_line : Outcome → List ℕ
outcome_line o =
    codes "  packet " ++ (decimal o.number ++ (codes " " ++ (ending_word o.ending ++ (codes " at " ++ (decimal o.node ++ (codes " word " ++ (decimal o.word ++ codes "\n")))))))

-- A step with what it put into the tray.
abbrev pub step_lines : Call → Result Reply Refusal → List Outcome → List ℕ
step_lines call reply outcomes = call_line call reply ++ flat_map outcome_line outcomes

-- Questions

-- The ports of a set, as ascending digits.
abbrev pub port_digit : PortSet → ℕ → List ℕ → List ℕ
port_digit ports p digit = elim (has ports p) [ true ↦ digit | false ↦ [] ]

abbrev pub ports_text : PortSet → List ℕ
ports_text ports =
    port_digit ports 0 (codes "0") ++ (port_digit ports 1 (codes "1") ++ (port_digit ports 2 (codes "2") ++ port_digit ports 3 (codes "3")))

abbrev pub mode_text : Mode → List ℕ
mode_text New = codes "new"
mode_text (Recovering root left) = codes "recovering root " ++ (decimal root ++ (codes " left " ++ decimal left))
mode_text (Serving root) = codes "serving root " ++ decimal root

abbrev pub entry_text : Option (PortSet × ℕ) → List ℕ
entry_text None = codes "none"
entry_text (Some e) = codes "ports " ++ (ports_text e.0 ++ (codes " hops " ++ decimal e.1))

-- The letter of each mark, from port 0 to port 3.
abbrev pub mark_text : Mark → List ℕ
mark_text m = mark_letter m ∷ []

abbrev pub marks_text : List Mark → List ℕ
marks_text marks =
    mark_text (slice_index_or marks 0 Unmarked) ++ (mark_text (slice_index_or marks 1 Unmarked)
    ++ (mark_text (slice_index_or marks 2 Unmarked) ++ mark_text (slice_index_or marks 3 Unmarked)))

abbrev pub calm_text : Bool → List ℕ
calm_text true = codes "yes"
calm_text false = codes "no"

abbrev pub answer_text : Answer → List ℕ
answer_text (answer.Mode m) = mode_text m
answer_text (answer.Entry e) = entry_text e
answer_text (answer.Marks ms) = marks_text ms
answer_text (answer.Calm b) = calm_text b

abbrev pub answer_line : Question → Result Answer Refusal → List ℕ
answer_line question answer = question_text question ++ (codes ": " ++ (or_refused answer_text answer ++ codes "\n"))

-- The nodes whose hands are up.
abbrev pub hand_item : ℕ → List ℕ
hand_item n = codes " " ++ decimal n

abbrev pub hands_line : List ℕ → List ℕ
hands_line nodes = cond (length nodes == 0) (codes "hands: none\n") (codes "hands:" ++ (flat_map hand_item nodes ++ codes "\n"))

-- Where a packet stands.
abbrev pub standing_text : Option ℕ → List ℕ
standing_text None = codes "home"
standing_text (Some p) = codes "port " ++ decimal p

abbrev pub packet_text : Packet → List ℕ
packet_text x = decimal x.number ++ (codes " at " ++ (decimal x.node ++ (codes " " ++ standing_text x.standing)))

-- What a reading past the last packet gives.
abbrev pub no_packet : Packet
no_packet = record { number = 0; source = 0; destination = 0; word = 0; node = 0; standing = None }

-- The packets in flight.
abbrev pub later_packet : Packet → List ℕ
later_packet x = codes ", " ++ packet_text x

abbrev pub flight_line : List Packet → List ℕ
flight_line packets =
    cond (length packets == 0) (codes "flight: none\n")
    (codes "flight: " ++ (packet_text (slice_index_or packets 0 no_packet) ++ (flat_map later_packet (drop 1 packets) ++ codes "\n")))

-- Wirings

-- Why there is no wiring: a number, and of a wall file the byte at fault too.
abbrev pub refused_text : ℕ → Option ℕ → List ℕ
refused_text number None = codes "refused " ++ decimal number
refused_text number (Some place) = codes "refused " ++ (decimal number ++ (codes " at " ++ decimal place))

abbrev pub turned_down_text : TurnedDown → List ℕ
turned_down_text why = refused_text why.number why.place

-- What a fault is as the reason of a mesh, and as that of a wall file.
abbrev pub by_number : WallFault → TurnedDown
by_number fault = record { number = fault_number fault; place = None }

abbrev pub at_place : WallFault → TurnedDown
at_place fault = record { number = fault_number fault; place = Some (fault_place fault) }

-- A fault with its place.
abbrev pub fault_text : WallFault → List ℕ
fault_text fault = decimal (fault_number fault) ++ (codes " at " ++ decimal (fault_place fault))

-- What became of a wiring.
abbrev pub wired_text : Result ℕ TurnedDown → List ℕ
wired_text (Ok n) = decimal n ++ codes " nodes"
wired_text (Err why) = turned_down_text why

abbrev pub mesh_line : ℕ → ℕ → Result ℕ TurnedDown → List ℕ
mesh_line columns rows nodes =
    codes "mesh " ++ (decimal columns ++ (codes " " ++ (decimal rows ++ (codes ": " ++ (wired_text nodes ++ codes "\n")))))

abbrev pub cables_line : Result ℕ TurnedDown → List ℕ
cables_line nodes = codes "cables: " ++ (wired_text nodes ++ codes "\n")
