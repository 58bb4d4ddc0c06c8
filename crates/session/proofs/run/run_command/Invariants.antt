-- The rows so far are those of the machine's run; the cursor moves on with each.
use Rattle.std.proofs.Common.{◌≡◌, ◌-◌, cond, eqb, length, get_or, vec_items}
use Rattle.session.proofs.Runs.{SoFar}
use Rattle.session.proofs.run.run_command.Given as goal

abbrev pub invariant-loop-n : goal.invariant-loop-n
invariant-loop-n l = (length l.out ≡ 16) × SoFar l.initial.memory l.text l.memory l.kind (vec_items l.rows)

abbrev pub decreases-loop-n : goal.decreases-loop-n
decreases-loop-n l = cond (eqb l.kind 0) 10921 (10920 - get_or l.memory 2 0)
