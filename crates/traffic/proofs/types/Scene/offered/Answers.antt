use Rattle.std.proofs.Common.{◌≡◌, ℕ, Bool, false, rules}
use Rattle.board.specs.View.{nodes_view}
use Rattle.flood.proofs.Made.{made_same}
use Rattle.traffic.specs.Offers.{port_offered}
use Rattle.traffic.proofs.Decisions.{all_four}
use Rattle.traffic.proofs.types.Scene.offered.Goals as goal

pub returns : goal.returns
returns g c others counts =
    let offers = port_offered (g.W.Wiring.layout c.args.self.now.wiring.now) (nodes_view c.args.self.now.board.now) others c.args.x c.args.ports.now in
    all_four c.from_fn.result offers c.from_fn.ensures.items.long
    (made_same _ (λ (k : ℕ) (b : Bool). b ≡ offers k) _ (λ i y q told. (search rules, search rules)) c.from_fn.result 4 false c.from_fn.ensures.items)
