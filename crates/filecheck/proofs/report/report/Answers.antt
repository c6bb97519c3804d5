use Rattle.std.proofs.Common.{◌++◌, string_bytes, ap, ◌∙◌}
use Rattle.filecheck.proofs.Lines.{lines_none, lines_more}
use Rattle.filecheck.proofs.report.report.Goals as goal

pub loop-node-init : goal.loop-node-init
loop-node-init g c = lines_none (g.W.Wiring.layout c.args.wiring.now) (string_bytes c.in_ok-text.text)

pub loop-node-preserved : goal.loop-node-preserved
loop-node-preserved g c =
    lines_more (g.W.Wiring.layout c.args.wiring.now) (string_bytes c.in_ok-text.text) c.loop-node.node
    (string_bytes c.loop-node.text) (string_bytes c.in_ok-line.line) (string_bytes c.push_str.new.self)
    c.loop-node.invariant
    c.in_ok-line.ensures
    (c.in_ok-push_str.ensures.bytes ∙ ap (λ line. string_bytes c.loop-node.text ++ line) c.as_str.ensures.value)
