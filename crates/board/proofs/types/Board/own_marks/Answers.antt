use Rattle.std.proofs.Common.{List, get_or, refl, ap, ◌∙◌}
use Rattle.rules.specs.declared.Mark.{Mark}
use Rattle.rules.specs.declared.Mark.TheVariants.{Unmarked}
use Rattle.board.specs.declared.types.Node.{Node}
use Rattle.board.proofs.Boards.{row_of, no_marks, marks_gathered}
use Rattle.board.proofs.Records.{no_node}
use Rattle.board.proofs.types.Board.own_marks.Goals as goal

pub returns : goal.returns
returns c =
    marks_gathered c.args.self.now c.each.result (λ node p. get_or node.marks p Unmarked) (λ p. refl)
    (λ k h p. let told = c.each.ensures.below k no_node h in row_of c.each.result k p ∙ ap (λ (xs : List Mark). get_or xs p Unmarked) (told.says.met ∙ ap (λ (n : Node). n.marks) told.shows))
    (λ k h. no_marks c.each.result k (c.each.ensures.past k h))
