use Rattle.std.proofs.Common.{rules, ◌∙◌, ap, Option, ℕ, tests}
use Rattle.std.specs.Prelude.{unwrap_or}
use Rattle.std.proofs.lemmas.Iterator.{YieldsList-from_slice}
use Rattle.std.proofs.lemmas.Iterator.Search.{find_from_yields_List}
use Rattle.chooser.specs.PortSets.{has}
use Rattle.chooser.proofs.Picks.{first_found}
use Rattle.chooser.proofs.choosers.first_of.Goals as goal

pub returns : goal.returns
returns c =
    let found = find_from_yields_List (has c.args.offer) _ _ c.find.result c.find.ensures.ran (YieldsList-from_slice c.args.order cc) (λ x b q k. search (rules, tests)) in
    c.unwrap_or.ensures ∙ ap (λ (o : Option ℕ). unwrap_or o 0) (c.copied.ensures ∙ found) ∙ first_found (has c.args.offer) c.args.order
