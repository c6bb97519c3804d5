use Rattle.std.proofs.Common.{Some, ap}
use Rattle.chooser.specs.declared.ports.PortSet.{PortSet}
use Rattle.wall.proofs.questions.pair.Goals as goal

pub returns : goal.returns
returns c = rw c.in_ok-way.was (ap (λ (ports : PortSet). Some (ports, c.in_ok-way.way.count)) c.from.ensures)
