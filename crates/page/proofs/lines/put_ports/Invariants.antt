use Rattle.tray.specs.Filled.{filled}
use Rattle.page.specs.Sheet.{Writes}
use Rattle.page.proofs.Growing.{first_ports}
use Rattle.page.proofs.lines.put_ports.Given as goal

abbrev pub invariant-loop-port : goal.invariant-loop-port
invariant-loop-port l = Writes l.port (first_ports (filled l.initial.sheet) l.ports l.port) l.initial.sheet l.sheet
