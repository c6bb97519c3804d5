use Rattle.std.proofs.Common.{◌∙◌}
use Rattle.chooser.proofs.PortSets.{taken_out}
use Rattle.chooser.proofs.ports.PortSet.without.Goals as goal

pub returns : goal.returns
returns c = c.marked.ensures ∙ taken_out c.args.self c.args.port
