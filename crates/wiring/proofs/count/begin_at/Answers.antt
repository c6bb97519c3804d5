use Rattle.std.proofs.Common.{ℕ, Bool, refl, ◌∙◌, rules, tests}
use Rattle.std.specs.List.{range_with_len}
use Rattle.std.proofs.lemmas.Iterator.{YieldsList-from_range}
use Rattle.std.proofs.lemmas.Iterator.Consumers.{YieldsList-from_filter, count_from_yields_List}
use Rattle.std.proofs.lemmas.List.Sums.{length-filter}
use Rattle.wiring.specs.Listing.{begins}
use Rattle.wiring.proofs.Listing.{node_counted}
use Rattle.wiring.proofs.count.begin_at.Goals as goal

pub returns-clause-value : goal.returns-clause-value
returns-clause-value g c =
    let l = g.W.Wiring.layout c.args.wiring.now in
    let test : ℕ → Bool = λ p. begins c.args.node (l.far c.args.node p) in
    count_from_yields_List c.filter.result c.count.result c.count.ensures.ran
    (YieldsList-from_filter _ test (YieldsList-from_range 0 4 4 c.filter.ensures.source refl) c.filter.ensures.closure (λ x r q k. search (rules, tests)))
    ∙ length-filter test (range_with_len 0 4)
    ∙ node_counted l c.args.node
