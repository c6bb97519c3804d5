use Rattle.rules.proofs.Laws.{promise_law}
use Rattle.rules.proofs.theorems.promise_holds.Goals as goal

pub returns : goal.returns
returns c = promise_law
