use Rattle.std.proofs.Common.{ap, ◌∙◌}
use Rattle.script.proofs.Hex.{word_read, read, told}
use Rattle.script.proofs.numbers.decoded.Goals as goal

pub returns-in_err-decode : goal.returns-in_err-decode
returns-in_err-decode c = told c.args.word.now c.in_err-decode.field-0.0 c.from_residual.result c.from_residual.ensures c.in_err-decode.ensures.err

pub returns : goal.returns
returns c = word_read c.args.word.now ∙ ap read c.in_ok-decode.ensures.ok
