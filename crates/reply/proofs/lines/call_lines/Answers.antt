use Rattle.std.proofs.Common.{◌++◌, string_bytes, refl, ap, ◌∙◌}
use Rattle.std.specs.List.{flat_map}
use Rattle.reply.specs.Text.{outcome_line}
use Rattle.reply.proofs.Rows.{rows_more, rows_all}
use Rattle.reply.proofs.lines.call_lines.Goals as goal

pub loop-outcome-preserved : goal.loop-outcome-preserved
loop-outcome-preserved c =
    rows_more outcome_line (string_bytes c.in_ok-text.text) c.args.outcomes.now c.loop-outcome.outcome-index _ (string_bytes c.loop-outcome.text) _ (string_bytes c.write.new.self)
    c.loop-outcome-test.true c.loop-outcome.invariant refl c.in_ok-write.ensures.bytes

pub returns : goal.returns
returns c =
    rows_all outcome_line (string_bytes c.in_ok-text.text) c.args.outcomes.now c.loop-outcome.outcome-index _ c.loop-outcome-test.false c.loop-outcome.invariant
    ∙ ap (λ t. t ++ flat_map outcome_line c.args.outcomes.now) c.in_ok-text.ensures
