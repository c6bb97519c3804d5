use Rattle.std.proofs.Common.{◌≡◌, ℕ, Bool, false, not, ◌&&◌, eqb, get_or, refl, rules}
use Rattle.rules.specs.Calls.{cut_end}
use Rattle.flood.proofs.Made.{made_same}
use Rattle.board.proofs.Records.{no_node, node_written, less_one}
use Rattle.board.proofs.types.Board.sever.Goals as goal

pub returns : goal.returns
unfolding cut_end
returns c =
    let live = (get_or c.args.self.now.nodes c.args.node no_node).live in
    let each = made_same _ (λ (k : ℕ) (x : Bool). x ≡ (get_or live k false && not (eqb k c.args.port))) _ (λ i y q told. (search rules, search rules)) c.from_fn-held.result 4 false c.from_fn-held.ensures.items in
    record {
      nodes = node_written (cut_end c.args.port) c.args.self.now _ c.args.node _ c.requires refl refl (rw (c.hand_up.ensures, less_one live c.args.port c.from_fn-held.result c.from_fn-held.ensures.items.long each) refl);
      count = refl;
    }
