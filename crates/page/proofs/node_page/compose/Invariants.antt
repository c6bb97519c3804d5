use Rattle.std.proofs.Common.{ℕ, ◌*◌, ◌<◌}
use Rattle.tray.specs.Filled.{filled}
use Rattle.rules.specs.State.{entry_of}
use Rattle.wall.specs.Answers.{entry_pair}
use Rattle.wall.specs.View.{state_of}
use Rattle.pagetext.specs.Laws.{ByteCount}
use Rattle.pagetext.specs.Text.{with_entries}
use Rattle.page.specs.Sheet.{Writes}
use Rattle.page.proofs.node_page.compose.Given as goal

abbrev pub invariant-loop-destination : goal.invariant-loop-destination
invariant-loop-destination g l =
    Writes (25 * l.destination) (with_entries (filled l.initial.sheet) (state_of (g.W.Wiring.layout l.wall.wiring) l.wall.core).nodes l.node l.destination) l.initial.sheet l.sheet
    × ((d : ℕ) → d < l.destination → ByteCount (entry_pair (entry_of (state_of (g.W.Wiring.layout l.wall.wiring) l.wall.core).nodes l.node d)))
