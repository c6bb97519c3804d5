use Rattle.std.proofs.Common.{ap, ◌∙◌}
use Rattle.std.proofs.lemmas.List.{length-replicate}
use Rattle.std.specs.Bool.{then_some}
use Rattle.script.specs.Numbers.{number_of}
use Rattle.script.proofs.Counted.{none, more, bad_number, all_read}
use Rattle.script.proofs.read.numbers.Goals as goal

pub loop-n-init : goal.loop-n-init
loop-n-init g c = none g.row.N c.args.text.now _ (length-replicate g.row.N 0)

pub loop-n-preserved : goal.loop-n-preserved
loop-n-preserved g c =
    more g.row.N c.args.text.now c.loop-n.rest.now c.loop-n.n-items c.loop-n.n-index c.loop-n.invariant c.in_ok-n.field-0 c.split_word.result.1.now
    c.loop-n-test.true (c.in_ok-n.ensures ∙ ap number_of c.split_word.ensures.word) c.split_word.ensures.rest

pub returns-in_err-n : goal.returns-in_err-n
returns-in_err-n g c =
    c.from_residual.ensures
    ∙ bad_number g.row.N c.args.text.now c.loop-n.rest.now c.loop-n.n-items c.loop-n.n-index c.loop-n.invariant
    c.loop-n-test.true (c.in_err-n.ensures ∙ ap number_of c.split_word.ensures.word)

pub returns : goal.returns
returns g c =
    all_read g.row.N c.args.text.now c.loop-n.rest.now c.loop-n.n-items c.loop-n.n-index c.loop-n.invariant _
    c.loop-n-test.false (c.then_some.ensures ∙ ap (λ b. then_some b c.loop-n.n-items) c.nothing.ensures)
