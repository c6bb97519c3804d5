use Rattle.std.proofs.Common.{sym, ◌∙◌}
use Rattle.std.proofs.lemmas.Result.{IfOk-weaker}
use Rattle.std.proofs.lemmas.Bool.{cond-true}
use Rattle.reply.proofs.lines.hands_line.Goals as goal

pub returns-then-is_empty : goal.returns-then-is_empty
returns-then-is_empty c = IfOk-weaker c.from_str.result _ _ (λ s e. e ∙ sym (cond-true _ _ _ (sym c.if-is_empty.ensures))) c.from_str.ensures.ok
