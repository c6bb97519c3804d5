use Rattle.std.proofs.Common.{sym, ap, ◌∙◌}
use Rattle.rules.specs.Slot.{Slotted}
use Rattle.flood.specs.View.{wired}
use Rattle.board.specs.View.{nodes_view}
use Rattle.wall.specs.View.{core_state}
use Rattle.wall.proofs.Slots.{slot_begun, slot_ended}
use Rattle.wall.proofs.inner.Core.slot.Goals as goal

pub returns : goal.returns
returns c =
    let w = wired c.args.self.now.board.count c.args.ends.now.at in
    let s = core_state c.args.self.now in
    record {
      answer = c.begin_slot-answer.ensures.answer ∙ ap (λ (x : Slotted). x.answer) (sym (slot_begun w s));
      after = slot_ended w s (nodes_view c.begin_slot-answer.new.self) _ _ _ _ _
          c.begin_slot-answer.ensures.nodes c.tick.ensures.board.nodes c.send_home.ensures.packets c.following-self.ensures
          (c.tick.ensures.board.count ∙ c.begin_slot-answer.ensures.count) c.send_home.ensures.last;
      count = c.tick.ensures.board.count ∙ c.begin_slot-answer.ensures.count;
    }
