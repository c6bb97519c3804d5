use Rattle.std.specs.Fmt.{HasWritten, IsPlainFormatter}
use Rattle.reply.proofs.Parts.{ports_below}
use Rattle.reply.proofs.text.PortsTextDisplay.fmt.Given as goal

abbrev pub invariant-loop-port : goal.invariant-loop-port
invariant-loop-port g l = IsPlainFormatter l.initial.f → HasWritten g.W.Write.write_str_gives l.initial.f (ports_below l.self.0 l.port) l.f
