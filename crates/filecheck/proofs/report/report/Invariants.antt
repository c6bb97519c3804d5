use Rattle.std.proofs.Common.{◌≡◌, ◌++◌, string_bytes}
use Rattle.filecheck.specs.Report.{lines_below}
use Rattle.filecheck.proofs.report.report.Given as goal

abbrev pub invariant-loop-node : goal.invariant-loop-node
invariant-loop-node g l = string_bytes l.text ≡ string_bytes l.initial.text ++ lines_below (g.W.Wiring.layout l.wiring) l.node
