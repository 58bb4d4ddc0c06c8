use Rattle.std.proofs.Common.{◌≡◌, ◌+◌, ◌-◌, ◌*◌, ◌<◌}
use Rattle.analysis.specs.Iteration.{iterate}
use Rattle.analysis.specs.Clauses.{one_round}
use Rattle.state.specs.Of.{as_abstract}
use Rattle.walker.specs.Pass.{AtLoop}
use Rattle.walker.proofs.pass.+pass.Given as goal

abbrev pub decreases-walk_at : goal.decreases-walk_at
decreases-walk_at l = 5 * l.left

abbrev pub decreases-numbered_at : goal.decreases-numbered_at
decreases-numbered_at l = 5 * l.left - 1

abbrev pub decreases-branch_at : goal.decreases-branch_at
decreases-branch_at l = 5 * l.left + 1

abbrev pub decreases-round_at : goal.decreases-round_at
decreases-round_at l = 5 * l.left + 1

abbrev pub decreases-settle_at : goal.decreases-settle_at
decreases-settle_at l = 5 * l.left + 2

abbrev pub decreases-loop_at : goal.decreases-loop_at
decreases-loop_at l = 5 * l.left + 3

-- the rounds that are left come to what all come to
abbrev pub invariant-settle_at-loop-i : goal.invariant-settle_at-loop-i
invariant-settle_at-loop-i l =
    AtLoop l.task l.pos l.left (λ t a stop.
    (iterate l.task.thresholds.now (4 - l.i) (l.task.rounds - l.i) (one_round l.task.lengths.now l.task.thresholds.now l.task.rounds t a (as_abstract l.first)) (as_abstract l.state)
    ≡ iterate l.task.thresholds.now 4 l.task.rounds (one_round l.task.lengths.now l.task.thresholds.now l.task.rounds t a (as_abstract l.first)) (as_abstract l.first))
    × (0 < l.i → l.end ≡ stop))
