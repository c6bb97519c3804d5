use Rattle.std.proofs.Common.{◌||◌, leb, subst, arith, rules, below_more}
use Rattle.rules.specs.State.{node_of, entry_of}
use Rattle.wall.specs.Answers.{entry_pair}
use Rattle.wall.specs.View.{state_of}
use Rattle.pagetext.specs.Laws.{ByteRoot, ByteCount}
use Rattle.pagetext.proofs.ReadBack.{reads_back}
use Rattle.page.proofs.Growing.{checked_value, no_entries, more_entries}
use Rattle.page.proofs.node_page.compose.Goals as goal

pub loop-destination-init : goal.loop-destination-init
loop-destination-init g c = (no_entries _ _ _, λ d h. absurd (omega arith))

pub loop-destination-preserved : goal.loop-destination-preserved
loop-destination-preserved g c =
    let layout = g.W.Wiring.layout c.args.wall.now.wiring in
    let nodes = (state_of layout c.args.wall.now.core).nodes in
    let k = c.loop-destination.destination in
    let same =
    checked_value (leb layout.count c.args.node || leb layout.count k) c.in_ok-entry.entry (entry_pair (entry_of nodes c.args.node k)) c.in_ok-entry.ensures in (
      more_entries nodes c.args.node c.put_node.new.sheet layout k c.in_ok-entry.entry c.loop-destination.sheet c.put_entry.new.sheet
          c.in_ok-entry.ensures c.loop-destination.invariant.0 c.put_entry.ensures.written,
      below_more (λ d. ByteCount (entry_pair (entry_of nodes c.args.node d))) k c.loop-destination.invariant.1 (subst ByteCount same c.put_entry.ensures.byte),
    )

pub returns : goal.returns
returns g c =
    let layout = g.W.Wiring.layout c.args.wall.now.wiring in
    let s = state_of layout c.args.wall.now.core in
    let few = (g.met.W.Wiring.sound c.args.wall.now.wiring).few_nodes in
    let mode = checked_value (leb layout.count c.args.node) c.in_ok-mode.mode (node_of s.nodes c.args.node).mode c.in_ok-mode.ensures in (
      search rules,
      search rules,
      reads_back layout.count s c.args.node
          (record {
            few_nodes = omega arith;
            node_byte = omega arith;
            root_byte = subst ByteRoot mode c.put_node.ensures.byte;
            count_bytes = λ d less. c.loop-destination.invariant.1 d (omega (arith, c.node_count-destination-end.ensures));
          }),
    )
