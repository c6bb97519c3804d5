use Rattle.std.proofs.Common.{arith}
use lib.ListN.{length-replicate}
use Rattle.std.proofs.lemmas.List.{replicate_more}
use Rattle.tray.proofs.Filled.{puts_none, puts_more, puts_fitting, free_after}
use Rattle.witness.proofs.lenders.fill_up.Goals as goal

pub loop-i-init : goal.loop-i-init
loop-i-init g c = puts_none _

pub loop-i-preserved : goal.loop-i-preserved
loop-i-preserved g c =
    let left = free_after c.loop-i.invariant in
    let one = puts_fitting c.put.ensures (omega (arith, length-replicate c.loop-i._i c.args.x)) in
    rw replicate_more at (puts_more c.loop-i.invariant one)
