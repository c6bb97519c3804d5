use Rattle.std.proofs.Common.{◌≡◌, ℕ, ◌≤◌, List, get_or, ap, ◌∙◌, arith, rules}
use Rattle.rules.specs.State.{fresh}
use Rattle.flood.proofs.Made.{made_same}
use Rattle.flood.specs.View.{wired}
use Rattle.board.specs.declared.types.Node.{Node}
use Rattle.board.specs.View.{node_view}
use Rattle.board.proofs.Boards.{board_at}
use Rattle.board.proofs.Records.{no_node}
use Rattle.board.proofs.types.Board.power_up.Goals as goal

pub returns : goal.returns
returns c some few =
    let each = made_same _ (λ (k : ℕ) (x : Node). (count : ℕ) → count ≤ 64 → node_view count x ≡ fresh (wired count c.args.ends.now.at) k) _ (λ i y q told. ((λ count low. search rules), search rules)) c.from_fn-nodes.result 64 no_node c.from_fn-nodes.ensures.items in (
      c.fit.ensures.count some few,
      board_at c.fit.new.self c.args.count _ (c.fit.ensures.count some few)
          (λ k h. ap (λ (xs : List Node). node_view c.args.count (get_or xs k no_node)) c.fit.ensures.nodes ∙ each k (omega arith) c.args.count few),
    )
