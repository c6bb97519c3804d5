use Rattle.std.proofs.Common.{◌≡◌, ℕ, ◌<◌, length, get_or, refl, ◌∙◌, subst, arith, length-set}
use Rattle.std.specs.Fn.{FnReturnsAt}
use Rattle.std.proofs.lemmas.Fn.{says_at}
use Rattle.rules.proofs.Views.{below_written, rest_written}
use Rattle.board.specs.declared.types.Node.{Node}
use Rattle.board.proofs.Boards.{all_none, other_default}
use Rattle.board.proofs.Records.{no_node}
use Rattle.board.proofs.types.Board.each.Goals as goal

pub loop-node-init : goal.loop-node-init
loop-node-init g c = (refl, (λ k h. absurd (omega arith)), λ k h. all_none c.args.none k)

pub loop-node-preserved : goal.loop-node-preserved
loop-node-preserved g c =
    let nodes = c.args.self.now.nodes in
    let l : c.loop-node.node < length c.loop-node.all = omega (arith, c.loop-node.invariant.0, c.args.self.now.count_few) in
    let n : c.loop-node.node < length nodes = omega (arith, c.args.self.now.nodes_long, c.args.self.now.count_few) in (
      length-set c.loop-node.all c.loop-node.node _ ∙ c.loop-node.invariant.0,
      below_written c.args.none c.loop-node.all c.loop-node.node _ (λ (k : ℕ) (x : _). (d : Node) → FnReturnsAt g.F.Fn c.args.question (get_or nodes k d) x) l c.loop-node.invariant.1
          (λ d. subst (λ (z : Node). FnReturnsAt g.F.Fn c.args.question z c.question.result) (other_default nodes c.loop-node.node no_node d n) (says_at g.F.Fn c.question.ensures refl)),
      rest_written c.args.none c.loop-node.all c.loop-node.node _ (λ (k : ℕ) (x : _). x ≡ c.args.none) c.loop-node.invariant.2,
    )

pub returns-clause-below : goal.returns-clause-below
returns-clause-below g c k d h = c.loop-node.invariant.1 k (omega arith) d

pub returns-clause-past : goal.returns-clause-past
returns-clause-past g c k h = c.loop-node.invariant.2 k (omega (arith, c.loop-node.auto.node-end))
