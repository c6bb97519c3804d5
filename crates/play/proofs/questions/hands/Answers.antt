use Rattle.std.proofs.Common.{◌∙◌, arith, rules, tests}
use Rattle.std.proofs.lemmas.Result.{IfOk-weaker}
use Rattle.std.proofs.lemmas.Iterator.{items_from_collect, YieldsList-from_range}
use Rattle.std.proofs.lemmas.Iterator.Consumers.{YieldsList-from_filter}
use Rattle.wall.specs.View.{state_of}
use Rattle.play.proofs.Gathered.{up_told, hands_told}
use Rattle.play.proofs.questions.hands.Goals as goal

pub returns : goal.returns
returns g c =
    let layout = g.W.Wiring.layout c.args.wall.now.wiring in
    let nodes = (state_of layout c.args.wall.now.core).nodes in
    IfOk-weaker c.collect.result _ _ (λ v e. e ∙ hands_told layout nodes _ c.node_count.ensures)
    (items_from_collect _ c.collect.ensures.ran
    (YieldsList-from_filter _ (up_told layout nodes) (YieldsList-from_range 0 _ c.node_count.result c.filter.ensures.source (omega arith)) c.filter.ensures.closure (λ x r q k. search (rules, tests))))
