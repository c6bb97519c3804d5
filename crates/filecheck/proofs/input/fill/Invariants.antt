use Rattle.std.proofs.Common.{◌-◌, ◌≤◌, length}
use Rattle.filecheck.proofs.input.fill.Given as goal

abbrev pub invariant-loop-used : goal.invariant-loop-used
invariant-loop-used l = l.used ≤ length l.initial.buffer

abbrev pub decreases-loop-used : goal.decreases-loop-used
decreases-loop-used l = length l.initial.buffer - l.used
