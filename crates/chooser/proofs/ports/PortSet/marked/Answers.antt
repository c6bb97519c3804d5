use Rattle.std.proofs.Common.{arith, cond, eqb}
use Rattle.std.proofs.lemmas.Grind.{common_steps}
use Rattle.chooser.specs.PortSets.{has}
use Rattle.chooser.proofs.PortSets.{told_by}
use Rattle.chooser.proofs.ports.PortSet.marked.Goals as goal
use Rattle.chooser.proofs.ports.PortSet.marked.Goals.{then-port-lt4, else-port-lt4}

pub returns : goal.returns
returns c =
    told_by c.if-port-lt4.marks _ (λ p. cond (eqb p c.args.port) c.args.on (has c.args.self p))
    (λ p below. elim c.if-port-lt4.branch [ then-port-lt4 w ↦ grind (arith, common_steps) | else-port-lt4 w ↦ grind (arith, common_steps) ])
