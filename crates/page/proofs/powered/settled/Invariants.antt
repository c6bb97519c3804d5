use Rattle.std.proofs.Common.{◌≡◌}
use Rattle.wall.specs.View.{state_of}
use Rattle.rules.specs.Walls.{slots_up}
use Rattle.page.proofs.powered.settled.Given as goal

abbrev pub invariant-loop : goal.invariant-loop
invariant-loop g l =
    (l.wall.wiring ≡ l.initial.wall.wiring)
    × (state_of (g.W.Wiring.layout l.initial.wall.wiring) l.wall.core ≡ slots_up (g.W.Wiring.layout l.initial.wall.wiring) l.counter)
