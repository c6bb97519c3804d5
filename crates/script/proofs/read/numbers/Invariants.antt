use Rattle.script.proofs.Counted.{Sofar}
use Rattle.script.proofs.read.numbers.Given as goal

abbrev pub invariant-loop-n : goal.invariant-loop-n
invariant-loop-n g l = Sofar g.row.N l.text l.rest l.n-items l.n-index
