use Rattle.rules.proofs.Laws.{distance_law}
use Rattle.rules.proofs.theorems.distance_is_least.Goals as goal

pub returns : goal.returns
returns c = distance_law
