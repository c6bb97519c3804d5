use Rattle.std.proofs.Common.{◌≡◌}
use Rattle.rules.specs.Slot.{sent_home}
use Rattle.board.specs.View.{nodes_view}
use Rattle.traffic.proofs.Homes.{FrontMapped}
use Rattle.traffic.proofs.types.Flight.send_home.Given as goal

abbrev pub invariant-loop-i : goal.invariant-loop-i
invariant-loop-i l =
    FrontMapped (sent_home (nodes_view l.board)) l.initial.self.places l.self.places l.i
    × (l.self.count ≡ l.initial.self.count) × (l.self.last ≡ l.initial.self.last)
