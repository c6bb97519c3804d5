use Rattle.std.proofs.Common.{arith, rules}
use Rattle.tray.proofs.Filled.{puts_fitting, puts_more, free_after}
use Rattle.witness.proofs.lenders.put_two.Goals as goal

pub returns : goal.returns
returns g c =
    let first = puts_fitting c.put.ensures (omega arith) in
    let left = free_after first in
    record {
      answer = search rules;
      outcome = puts_more first (puts_fitting c.put-2.ensures (omega arith));
    }
