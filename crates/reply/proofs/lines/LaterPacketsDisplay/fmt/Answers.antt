use Rattle.std.proofs.Common.{rules}
use Rattle.std.proofs.Output.{has_written_append, has_written_of_eq}
use Rattle.reply.specs.Text.{later_packet, no_packet}
use Rattle.reply.proofs.Rows.{items_more, items_all}
use Rattle.reply.proofs.lines.LaterPacketsDisplay.fmt.Goals as goal

pub loop-packet-preserved : goal.loop-packet-preserved
loop-packet-preserved g c p =
    has_written_of_eq _ _ _ _ _ (items_more later_packet _ c.loop-packet.packet-index no_packet c.loop-packet-test.true)
    (has_written_append _ _ _ _ _ _ (c.loop-packet.invariant p) (search rules))

pub returns-clause-writes : goal.returns-clause-writes
returns-clause-writes g c p ok = has_written_of_eq _ _ _ _ _ (items_all later_packet _ c.loop-packet.packet-index c.loop-packet-test.false) (c.loop-packet.invariant p)
