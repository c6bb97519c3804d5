use Rattle.std.proofs.Common.{false}
use Rattle.flood.specs.View.{wired}
use Rattle.board.specs.View.{nodes_view}
use Rattle.board.proofs.Begins.{distances_are}
use Rattle.board.proofs.Boards.{all_none}
use Rattle.board.proofs.types.Board.reach.Goals as goal

pub returns : goal.returns
returns c =
    distances_are (wired c.args.self.now.count c.args.ends.now.at) (nodes_view c.args.self.now) c.args.root _ _ _
    c.open_marks.ensures (λ n. all_none false n) c.broadcast.ensures.value
