use Rattle.std.proofs.Common.{◌≡◌, ◌<◌, ◌≤◌, true, false, cond, is_some, ◌⊎◌, get_or, None, sym, ap, ◌∙◌, inl, inr}
use Rattle.std.proofs.lemmas.Bool.{cases_lt}
use Rattle.rules.specs.State as rules
use Rattle.rules.specs.Slot.{is_nothing}
use Rattle.board.specs.declared.types.Node.{Node}
use Rattle.board.specs.View.{nodes_view}
use Rattle.board.proofs.Boards.{node_past}
use Rattle.board.proofs.Records.{no_node, some_entry, entry_read}
use Rattle.board.proofs.types.Board.deaf_to.Goals as goal

pub returns : goal.returns
returns c n = go (cases_lt n c.args.self.now.count)
  where
    go : (n < c.args.self.now.count) ⊎ (c.args.self.now.count ≤ n) → get_or c.each.result n false ≡ cond (is_nothing (rules.entry_of (nodes_view c.args.self.now) n c.args.owner)) false true
    go (inl h) =
        let told = c.each.ensures.below n no_node h in
        told.says.met ∙ ap (λ (x : Node). is_some (get_or x.row c.args.owner None)) told.shows
        ∙ some_entry (get_or (get_or c.args.self.now.nodes n no_node).row c.args.owner None)
        ∙ ap (λ (e : rules.Entry). cond (is_nothing e) false true) (sym (entry_read c.args.self.now n c.args.owner h c.requires))
    go (inr h) = c.each.ensures.past n h ∙ ap (λ (x : rules.Node). cond (is_nothing (get_or x.row c.args.owner rules.nothing)) false true) (sym (node_past c.args.self.now n h))
