use Rattle.std.specs.Fmt.{HasWritten, IsPlainFormatter}
use Rattle.reply.proofs.Parts.{marks_below}
use Rattle.reply.proofs.text.MarksTextDisplay.fmt.Given as goal

abbrev pub invariant-loop-mark : goal.invariant-loop-mark
invariant-loop-mark g l = IsPlainFormatter l.initial.f → HasWritten g.W.Write.write_str_gives l.initial.f (marks_below l.mark-items l.mark-index) l.f
