use Rattle.std.proofs.Common.{◌≡◌, ℕ, ◌+◌, ◌<◌, sym, ap, ◌∙◌, arith}
use Rattle.traffic.specs.Occupied.{one_at, standing_at, counted}
use Rattle.traffic.proofs.Occupancies.{none_at_home, standing_among, one_more}
use Rattle.traffic.proofs.types.Occupancy.arrive.Goals as goal

pub returns-in-Some : goal.returns-in-Some
returns-in-Some c xs ys h n p l k =
    let low : c.in-Some.port < 4 = c.requires.0.1 c.in-Some.port c.in-Some.is in
    one_more c.args.self.now.standing c.args.x c.in-Some.port c.in-Some.is low (omega arith) (c.args.self.now.four c.args.x.node (omega arith)) n p
    ∙ ap (λ (m : ℕ). one_at n p c.args.x + m) (h n p l k)
    ∙ sym (standing_among n p xs c.args.x ys)

pub returns-in_default : goal.returns-in_default
returns-in_default c xs ys h n p l k =
    let none : one_at n p c.args.x ≡ 0 = none_at_home n p c.args.x c.in_default.not-Some in
    let among : standing_at n p _ ≡ _ = standing_among n p xs c.args.x ys in
    let before : counted c.args.self.now n p ≡ _ = h n p l k in
    before ∙ omega arith
