use Rattle.rules.proofs.Laws.{root_law}
use Rattle.rules.proofs.theorems.root_marks_by_order.Goals as goal

pub returns : goal.returns
returns c = root_law
