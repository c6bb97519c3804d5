use Rattle.rules.proofs.Walls.{worked_walls}
use Rattle.rules.proofs.theorems.worked_walls_hold.Goals as goal

pub returns : goal.returns
returns c = worked_walls
