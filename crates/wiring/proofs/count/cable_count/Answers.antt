use Rattle.std.proofs.Common.{ℕ, length, ap, ◌∙◌, arith, rules, tests}
use Rattle.std.proofs.lemmas.Iterator.{YieldsList-from_range, YieldsList-from_map}
use Rattle.std.proofs.lemmas.Iterator.Adapters.{fits_from_length, at_most_from_yields_List}
use Rattle.std.proofs.lemmas.Iterator.Consumers.{sum_from_yields_List}
use Rattle.std.proofs.lemmas.List.FromFn.{length-range_with_len}
use Rattle.wiring.specs.Listing.{node_cables, cables_below}
use Rattle.wiring.proofs.Listing.{nodes_counted}
use Rattle.wiring.proofs.count.cable_count.Goals as goal

pub sum-requires-clause-fits : goal.sum-requires-clause-fits
sum-requires-clause-fits g c =
    let n = c.node_count.result in
    fits_from_length _ _ 256 65536
    (at_most_from_yields_List (YieldsList-from_range 0 n n c.map.ensures.source (omega arith)) (omega (arith, length-range_with_len 0 n, c.node_count.type_inv)))
    c.map.ensures.closure (omega arith) (λ x r q k. search (rules, tests))

pub returns : goal.returns
returns g c =
    let l = g.W.Wiring.layout c.args.wiring.now in
    let n = c.node_count.result in
    let cables : ℕ → ℕ = λ k. length (node_cables l k) in
    sum_from_yields_List c.map.result c.sum.result c.sum.ensures.ran
    (YieldsList-from_map _ cables (YieldsList-from_range 0 n n c.map.ensures.source (omega arith)) c.map.ensures.closure (λ x r q k. search (rules, tests)))
    ∙ nodes_counted l n
    ∙ ap (λ k. length (cables_below l k)) c.node_count.ensures
