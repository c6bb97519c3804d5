use Rattle.std.proofs.Common.{◌∙◌, arith}
use Rattle.page.proofs.Writing.{digits_fit, writes_numeral}
use Rattle.page.proofs.numbers.put_number.Goals as goal

pub put_text-requires : goal.put_text-requires
put_text-requires g c =
    let fit = digits_fit (c.as_bytes.ensures.value ∙ c.format.ensures.text) c.requires.some c.requires.digits (omega arith) in
    omega arith

pub returns : goal.returns
returns g c = writes_numeral (c.as_bytes.ensures.value ∙ c.format.ensures.text) c.requires.some c.requires.digits (omega arith) c.put_text.ensures
