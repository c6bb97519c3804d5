use Rattle.std.proofs.Common.{◌<◌, subst}
use Rattle.wall.specs.View.{state_of}
use Rattle.page.proofs.Growing.{no_pages, more_pages}
use Rattle.page.proofs.wall_pages.put_pages.Goals as goal

pub loop-node-init : goal.loop-node-init
loop-node-init g c =
    let layout = g.W.Wiring.layout c.args.wall.now.wiring in
    no_pages layout.count (state_of layout c.args.wall.now.core) _

pub loop-node-preserved : goal.loop-node-preserved
loop-node-preserved g c =
    let layout = g.W.Wiring.layout c.args.wall.now.wiring in
    more_pages layout.count (state_of layout c.args.wall.now.core) _ c.loop-node.node c.compose.result _ _
    (subst (λ n. c.loop-node.node < n) c.node_count-node-end.ensures c.loop-node-test.true)
    c.loop-node.invariant c.compose.ensures
