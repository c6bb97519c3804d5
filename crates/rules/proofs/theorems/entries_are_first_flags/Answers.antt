use Rattle.rules.proofs.Laws.{flood_law}
use Rattle.rules.proofs.theorems.entries_are_first_flags.Goals as goal

pub returns : goal.returns
returns c = flood_law
