use Rattle.std.proofs.Common.{◌+◌, ◌-◌, ◌*◌}
use Rattle.watch.proofs.pass.+pass.Given as goal

abbrev pub decreases-pass_at : goal.decreases-pass_at
decreases-pass_at l = 3 * l.left

abbrev pub decreases-numbered_at : goal.decreases-numbered_at
decreases-numbered_at l = 3 * l.left - 1

abbrev pub decreases-branch_at : goal.decreases-branch_at
decreases-branch_at l = 3 * l.left + 1

abbrev pub decreases-loop_at : goal.decreases-loop_at
decreases-loop_at l = 3 * l.left + 1
