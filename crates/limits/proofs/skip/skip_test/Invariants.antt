use Rattle.std.proofs.Common.{◌≤◌, length}
use Rattle.limits.proofs.skip.skip_test.Given as goal

abbrev pub invariant-loop-left : goal.invariant-loop-left
invariant-loop-left l = length l.rest ≤ length l.code

abbrev pub decreases-loop-left : goal.decreases-loop-left
decreases-loop-left l = length l.rest
