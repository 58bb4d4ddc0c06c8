-- The six worked programs, each by computing its analysis, and their runs.
use Rattle.std.proofs.Common.{◌≡◌, ℕ, zero, suc, [], refl}
use Rattle.program.specs.Basics.{in_bytes}
use Rattle.program.specs.Syntax.{num, var, less, skip}
use Rattle.program.specs.Semantics.{out_of_rounds, nth_array, bind_value, eval, eval_test, or_fault, and_then, run_loop, run, initial}
use Rattle.program.specs.Encoding.{encode_expr, encode_test, encode_stmt}
use Rattle.program.specs.Validity.{valid_expr, valid_test, test_size, valid_stmt, nesting, loop_nesting, stmt_numbers, consecutive}
use Rattle.interval.specs.Interval.{threshold_above, threshold_below}
use Rattle.analysis.specs.Reach.{bind, faults_in, if_reached}
use Rattle.analysis.specs.AbstractState.{nth_interval, zip_with, merge, all_within, within}
use Rattle.interval.specs.Arithmetic.{if_two, if_one}
use Rattle.analysis.specs.Evaluation.{eval_interval}
use Rattle.analysis.specs.Assume.{cut, if_both, assume, test_faults}
use Rattle.analysis.specs.Iteration.{iterate}
use Rattle.analysis.specs.Analyser.{assigned, stored, analyse}
use Rattle.analysis.specs.Thresholds.{expr_thresholds, test_thresholds, stmt_thresholds}
use Rattle.analysis.specs.Respond.{insert_alarm, sort_alarms}
use Rattle.analysis.specs.Worked.{Worked, endless, WorkedRuns}

pub worked : Worked
unfolding Worked in_bytes encode_expr encode_test encode_stmt valid_expr valid_test test_size valid_stmt nesting loop_nesting stmt_numbers consecutive
    threshold_above threshold_below bind faults_in if_reached nth_interval zip_with merge all_within within if_two if_one eval_interval
    cut if_both assume test_faults iterate assigned stored analyse expr_thresholds test_thresholds stmt_thresholds insert_alarm sort_alarms
worked = (
  record { accepted = refl; alarms = refl; end = refl },
  record { accepted = refl; alarms = refl; end = refl },
  record { accepted = refl; alarms = refl; end = refl },
  record { accepted = refl; alarms = refl; end = refl },
  record { accepted = refl; alarms = refl; end = refl },
  record { accepted = refl; alarms = refl; end = refl },
)

-- its test holds in every round
goes_on : (m k : ℕ) → run_loop k 1 (less (var 0) (num 5)) (λ u. run m skip u) (initial endless []) ≡ out_of_rounds
unfolding run_loop run eval eval_test bind_value or_fault and_then
goes_on m zero = refl
goes_on m (suc k) = goes_on m k

pub worked_runs : WorkedRuns
unfolding WorkedRuns run_loop run eval eval_test bind_value or_fault and_then nth_array
worked_runs = (refl, refl, refl, refl, λ n. goes_on n n)
