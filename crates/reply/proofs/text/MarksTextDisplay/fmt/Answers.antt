use Rattle.std.proofs.Common.{rules}
use Rattle.std.proofs.Output.{has_written_append, has_written_of_eq}
use Rattle.reply.proofs.Parts.{marks_more, marks_all}
use Rattle.reply.proofs.text.MarksTextDisplay.fmt.Goals as goal

pub loop-mark-preserved : goal.loop-mark-preserved
loop-mark-preserved g c p =
    has_written_of_eq _ _ _ _ _ (marks_more _ c.loop-mark.mark-index) (has_written_append _ _ _ _ _ _ (c.loop-mark.invariant p) (search rules))

pub returns-clause-writes : goal.returns-clause-writes
returns-clause-writes g c p ok =
    has_written_of_eq _ _ _ _ _ (marks_all _ c.loop-mark.mark-index c.loop-mark-test.false c.loop-mark.auto.mark-index-end) (c.loop-mark.invariant p)
