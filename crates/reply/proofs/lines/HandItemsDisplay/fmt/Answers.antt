use Rattle.std.proofs.Common.{rules}
use Rattle.std.proofs.Output.{has_written_append, has_written_of_eq}
use Rattle.reply.specs.Text.{hand_item}
use Rattle.reply.proofs.Rows.{items_more, items_all}
use Rattle.reply.proofs.lines.HandItemsDisplay.fmt.Goals as goal

pub loop-node-preserved : goal.loop-node-preserved
loop-node-preserved g c p =
    has_written_of_eq _ _ _ _ _ (items_more hand_item _ c.loop-node.node-index 0 c.loop-node-test.true)
    (has_written_append _ _ _ _ _ _ (c.loop-node.invariant p) (search rules))

pub returns-clause-writes : goal.returns-clause-writes
returns-clause-writes g c p ok = has_written_of_eq _ _ _ _ _ (items_all hand_item _ c.loop-node.node-index c.loop-node-test.false) (c.loop-node.invariant p)
