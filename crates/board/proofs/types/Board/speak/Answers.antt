use Rattle.std.proofs.Common.{ap, ◌∙◌}
use Rattle.rules.specs.Flood.{Spread}
use Rattle.rules.specs.Slot.{heard}
use Rattle.flood.specs.View.{wired}
use Rattle.board.specs.View.{nodes_view}
use Rattle.board.proofs.Begins.{broadcast_is, heard_count}
use Rattle.board.proofs.types.Board.speak.Goals as goal

pub returns : goal.returns
returns c =
    let w = wired c.args.self.now.count c.args.ends.now.at in
    let nodes = nodes_view c.args.self.now in
    let is = broadcast_is w nodes c.args.owner _ _ _ c.own_marks.ensures c.deaf_to-deaf.ensures c.broadcast-flood.ensures.value in
    record {
      cycles = ap (λ (x : Spread). x.cycles) is;
      board = record {
        nodes = c.inform.ensures.board.nodes ∙ heard_count c.args.self.now.count c.args.ends.now.at nodes c.args.owner _ ∙ ap (λ (x : Spread). heard w nodes c.args.owner x.cells) is;
        count = c.inform.ensures.board.count;
      };
    }
