use Rattle.std.proofs.Common.{◌∙◌}
use Rattle.flood.specs.View.{wired}
use Rattle.board.specs.View.{nodes_view}
use Rattle.board.proofs.Begins.{rooted_is}
use Rattle.board.proofs.types.Board.make_root.Goals as goal

pub returns : goal.returns
returns c = record {
  nodes = c.enlist.ensures.nodes ∙ rooted_is (wired c.args.self.now.count c.args.ends.now.at) (nodes_view c.args.self.now) c.args.root _ c.reach-cells.ensures;
  count = c.enlist.ensures.count;
}
