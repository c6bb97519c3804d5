use Rattle.board.specs.View.{nodes_view}
use Rattle.traffic.proofs.Sweeping.{Swept}
use Rattle.traffic.proofs.types.Flight.step.Given as goal

abbrev pub invariant-loop-i : goal.invariant-loop-i
invariant-loop-i g l =
    Swept g.C.Chooser.picks (g.W.Wiring.layout l.wiring) (nodes_view l.board) l.i
    l.initial.self l.initial.tray l.initial.chooser l.self l.sweep l.tray l.chooser
