use Rattle.std.proofs.Common.{◌≡◌, sym, ap, ◌∙◌, arith}
use Rattle.rules.specs.Slot.{tick_mode}
use Rattle.board.proofs.Slots.{tick_last, tick_more, tick_other}
use Rattle.board.proofs.rows.ticked.Goals as goal

pub returns-in-Recovering : goal.returns-in-Recovering
returns-in-Recovering c = sym (ap tick_mode c.in-Recovering.is ∙ tick_last c.in-Recovering.root c.in-Recovering.left c.if-left-le1.true)

pub returns-in-Recovering-2 : goal.returns-in-Recovering-2
returns-in-Recovering-2 c =
    let first = c.in-Recovering.is in
    let second = c.in-Recovering-2.is in
    let same : c.in-Recovering.left ≡ c.in-Recovering-2.left = cc in
    sym (ap tick_mode second ∙ tick_more c.in-Recovering-2.root c.in-Recovering-2.left (omega (arith, c.if-left-le1.false, same)))

pub returns-in_default : goal.returns-in_default
returns-in_default c = tick_other c.args.mode c.in_default.not-Recovering
