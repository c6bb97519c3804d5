use Rattle.std.proofs.Common.{false, cond, get_or, refl, ap, ◌∙◌}
use Rattle.rules.specs.declared.Mark.TheVariants.{Unmarked, Down}
use Rattle.board.specs.declared.types.Node.{Node}
use Rattle.board.proofs.Boards.{row_of, no_marks, marks_gathered}
use Rattle.board.proofs.Records.{no_node}
use Rattle.board.proofs.types.Board.open_marks.Goals as goal

pub returns : goal.returns
returns c =
    marks_gathered c.args.self.now c.each.result (λ node p. cond (get_or node.live p false) Down Unmarked) (λ p. refl)
    (λ k h p. let told = c.each.ensures.below k no_node h in row_of c.each.result k p ∙ told.says.met p ∙ ap (λ (n : Node). cond (get_or n.live p false) Down Unmarked) told.shows)
    (λ k h. no_marks c.each.result k (c.each.ensures.past k h))
