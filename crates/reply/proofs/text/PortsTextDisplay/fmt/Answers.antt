use Rattle.std.proofs.Common.{rules}
use Rattle.std.proofs.Output.{has_written_append, has_written_of_eq}
use Rattle.reply.proofs.Parts.{ports_more, ports_all}
use Rattle.reply.proofs.text.PortsTextDisplay.fmt.Goals as goal

pub loop-port-preserved : goal.loop-port-preserved
loop-port-preserved g c p =
    has_written_of_eq _ _ _ _ _ (ports_more c.args.self.now.0 c.loop-port.port)
    (has_written_append _ _ _ _ _ _ (c.loop-port.invariant p) (search rules))

pub returns-clause-writes : goal.returns-clause-writes
returns-clause-writes g c p ok =
    has_written_of_eq _ _ _ _ _ (ports_all c.args.self.now.0 c.loop-port.port c.loop-port-test.false c.loop-port.auto.port-end)
    (c.loop-port.invariant p)
