use Rattle.std.proofs.Common.{sym, refl, ap, ◌∙◌}
use Rattle.rules.specs.Calls.{changed, cut_end}
use Rattle.board.proofs.Records.{changed_past}
use Rattle.board.proofs.types.Board.cut_cable.Goals as goal

pub returns-then-is_dead : goal.returns-then-is_dead
returns-then-is_dead c = record { rule = rw (sym c.is_dead.ensures ∙ c.if-is_dead.true) (refl, refl); count = refl }

pub returns-then-far-self : goal.returns-then-far-self
returns-then-far-self c = record {
  rule = rw (sym c.is_dead.ensures ∙ c.if-is_dead.false)
      (c.sever-then-far-self.ensures.nodes ∙ ap (changed (cut_end c.args.far.1) c.args.far.0) c.sever.ensures.nodes);
  count = c.sever-then-far-self.ensures.count ∙ c.sever.ensures.count;
}

pub returns-else-far-self : goal.returns-else-far-self
returns-else-far-self c = record {
  rule = rw (sym c.is_dead.ensures ∙ c.if-is_dead.false)
      (sym (changed_past (cut_end c.args.far.1) c.sever.new.self c.args.far.0 c.if-far-self.false)
      ∙ ap (changed (cut_end c.args.far.1) c.args.far.0) c.sever.ensures.nodes);
  count = c.sever.ensures.count;
}
