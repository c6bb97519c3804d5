use Rattle.std.proofs.Common.{◌∙◌}
use Rattle.chooser.proofs.PortSets.{added}
use Rattle.chooser.proofs.ports.PortSet.with.Goals as goal

pub returns : goal.returns
returns c = c.marked.ensures ∙ added c.args.self c.args.port
