use Rattle.std.proofs.Common.{◌≡◌, ℕ, Bool, false, is_some, rules}
use Rattle.flood.proofs.Arrays.{four_are}
use Rattle.flood.proofs.Made.{made_same}
use Rattle.flood.specs.View.{far_in}
use Rattle.board.proofs.made.cables.Goals as goal

pub returns : goal.returns
returns c =
    let at = c.args.ends.now.at in
    let each = made_same _ (λ (k : ℕ) (x : Bool). x ≡ is_some (far_in at c.args.node k)) _ (λ i y q told. (search rules, search rules)) c.from_fn.result 4 false c.from_fn.ensures.items in
    four_are (λ p. is_some (far_in at c.args.node p)) c.from_fn.result c.from_fn.ensures.items.long each
