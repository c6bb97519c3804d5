use Rattle.std.proofs.Common.{◌≡◌, ℕ, ◌/◌, ◌%◌, None, Option, rules}
use Rattle.flood.proofs.Arrays.{all_fit_from, spells_layout}
use Rattle.flood.proofs.Made.{made_same}
use Rattle.flood.proofs.types.Ends.of.Goals as goal

pub invariant_of-result : goal.invariant_of-result
invariant_of-result g c =
    let layout = g.W.Wiring.layout c.args.wiring.now in
    let each = made_same _ (λ (k : ℕ) (end : Option (ℕ × ℕ)). end ≡ layout.far (k / 4) (k % 4)) _ (λ i y q told. (search rules, search rules)) c.from_fn-at.result 256 None c.from_fn-at.ensures.items in
    record { in_range = all_fit_from layout (g.met.W.Wiring.sound c.args.wiring.now) c.from_fn-at.result c.from_fn-at.ensures.items.long each }

pub returns : goal.returns
returns g c =
    let layout = g.W.Wiring.layout c.args.wiring.now in
    let each = made_same _ (λ (k : ℕ) (end : Option (ℕ × ℕ)). end ≡ layout.far (k / 4) (k % 4)) _ (λ i y q told. (search rules, search rules)) c.from_fn-at.result 256 None c.from_fn-at.ensures.items in
    spells_layout layout (g.met.W.Wiring.sound c.args.wiring.now) c.from_fn-at.result each
