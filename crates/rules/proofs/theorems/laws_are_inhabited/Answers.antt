use Rattle.rules.proofs.Inhabited.{inhabited}
use Rattle.rules.proofs.theorems.laws_are_inhabited.Goals as goal

pub returns : goal.returns
returns c = inhabited
