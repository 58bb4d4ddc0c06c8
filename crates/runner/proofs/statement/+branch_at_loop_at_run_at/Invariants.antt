use Rattle.std.proofs.Common.{◌≡◌, ◌+◌, ◌-◌, ◌*◌, length}
use Rattle.program.specs.Syntax.{Test, Stmt}
use Rattle.program.specs.Encoding.{encode_test}
use Rattle.program.specs.Semantics.{run_loop, run}
use Rattle.runner.specs.Of.{as_state}
use Rattle.runner.specs.Ready.{TestReady, StmtReady}
use Rattle.runner.proofs.statement.+branch_at_loop_at_run_at.Given as goal

abbrev pub decreases-branch_at : goal.decreases-branch_at
decreases-branch_at l = 2 * l.left + 1

abbrev pub decreases-loop_at : goal.decreases-loop_at
decreases-loop_at l = 2 * l.left + 1

abbrev pub decreases-run_at : goal.decreases-run_at
decreases-run_at l = 2 * l.left

-- what is left of the loop, with the rounds that are left, comes to what the loop comes to
abbrev pub invariant-loop_at-loop : goal.invariant-loop_at-loop
invariant-loop_at-loop l =
    (t : Test) (a : Stmt) → TestReady l.task.text.now l.pos l.left t → StmtReady l.task.text.now (l.pos + length (encode_test t)) l.left a →
    run_loop (l.task.rounds - l.counter) l.number t (λ u. run l.task.rounds a u) (as_state l.task.inputs.now l.state)
    ≡ run_loop l.task.rounds l.number t (λ u. run l.task.rounds a u) (as_state l.task.inputs.now l.initial.state)
