use Rattle.rules.proofs.Laws.{counts_law}
use Rattle.rules.proofs.theorems.counts_add_up.Goals as goal

pub returns : goal.returns
returns c = counts_law
