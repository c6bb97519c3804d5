use Rattle.std.proofs.Common.{replicate}
use Rattle.tray.specs.Filled.{Puts}
use Rattle.witness.proofs.lenders.fill_up.Given as goal

abbrev pub invariant-loop-i : goal.invariant-loop-i
invariant-loop-i g l = Puts (replicate l._i l.x) l.initial.tray l.tray
