use Rattle.std.proofs.Common.{◌∙◌}
use Rattle.script.proofs.Decimal.{no_number, no_text, text_is, parsed}
use Rattle.script.proofs.numbers.number.Goals as goal

pub returns-then-not-are_digits : goal.returns-then-not-are_digits
returns-then-not-are_digits c = no_number c.args.word.now c.if-not-are_digits.ensures

pub returns-in_err-ok : goal.returns-in_err-ok
returns-in_err-ok c = absurd (no_text _ _ c.args.word.now c.from_utf8.result c.if-not-are_digits.ensures c.in_err-ok.ensures.value c.from_utf8.ensures.cases)

pub returns : goal.returns
returns c =
    c.ok-2.ensures.value
    ∙ parsed c.args.word.now c.in_ok-ok.field-0.now c.parse.result c.if-not-are_digits.ensures
    (text_is _ _ c.args.word.now c.from_utf8.result c.in_ok-ok.field-0 c.in_ok-ok.ensures.value c.from_utf8.ensures.cases) c.parse.ensures.value.0
