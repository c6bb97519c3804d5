use Rattle.std.proofs.Common.{◌*◌}
use Rattle.tray.specs.Filled.{filled}
use Rattle.wall.specs.View.{state_of}
use Rattle.page.specs.Sheet.{Writes}
use Rattle.pagetext.specs.Text.{with_pages}
use Rattle.page.proofs.wall_pages.put_pages.Given as goal

abbrev pub invariant-loop-node : goal.invariant-loop-node
invariant-loop-node g l =
    Writes (1629 * l.node) (with_pages (filled l.initial.sheet) (g.W.Wiring.layout l.wall.wiring).count (state_of (g.W.Wiring.layout l.wall.wiring) l.wall.core).nodes l.node) l.initial.sheet l.sheet
