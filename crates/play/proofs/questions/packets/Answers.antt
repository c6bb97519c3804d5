use Rattle.std.proofs.Common.{◌∙◌, slice_get, arith, rules, tests}
use Rattle.std.proofs.lemmas.Result.{IfOk-weaker}
use Rattle.std.proofs.lemmas.Iterator.{items_from_collect, YieldsList-from_range}
use Rattle.std.proofs.lemmas.Iterator.Consumers.{YieldsList-from_filter_map}
use Rattle.wall.specs.View.{state_of}
use Rattle.play.proofs.Gathered.{by_number}
use Rattle.play.proofs.questions.packets.Goals as goal

pub returns : goal.returns
returns g c =
    let flying = (state_of (g.W.Wiring.layout c.args.wall.now.wiring) c.args.wall.now.core).packets in
    IfOk-weaker c.collect.result _ _ (λ v e. e ∙ by_number flying _ c.in_flight.ensures)
    (items_from_collect _ c.collect.ensures.ran
    (YieldsList-from_filter_map _ (slice_get flying) (YieldsList-from_range 0 _ c.in_flight.result c.filter_map.ensures.source (omega arith)) c.filter_map.ensures.closure (λ x r q k. search (rules, tests))))
