use Rattle.std.proofs.Common.{refl, rules, tests, arith}
use Rattle.std.proofs.lemmas.Iterator.{YieldsList-from_range, cases_from_all}
use Rattle.wall.proofs.Asking.{Yes, No, calm_by}
use Rattle.wall.proofs.wall.Wall.calm.Goals as goal

pub returns : goal.returns
returns g c =
    let layout = g.W.Wiring.layout c.args.self.now.wiring in
    let core = c.args.self.now.core in
    calm_by layout core c.all.result
    (cases_from_all _ _ c.all.result (Yes layout core) (No layout core) c.all.ensures.ran
    (YieldsList-from_range 0 c.node_count.result layout.count refl (omega (arith, c.node_count.ensures)))
    (λ x q k. search (rules, tests))
    (λ x q k. search (rules, tests)))
