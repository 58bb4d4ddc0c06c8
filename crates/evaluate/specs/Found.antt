-- What is found where an expression or a test stands. Assumes nothing: these are definitions.
use Rattle.std.specs.Prelude.{◌≡◌, ℕ, true, false, List, []}
use Rattle.program.specs.Syntax.{Expr, Test}
use Rattle.interval.specs.Arithmetic.{EvalResult, eval_result}
use Rattle.interval.specs.Of.{Faulty, Says}
use Rattle.analysis.specs.Reach.{unreached, reached}
use Rattle.analysis.specs.AbstractState.{Env, Abstract}
use Rattle.analysis.specs.Evaluation.{eval_interval}
use Rattle.analysis.specs.Clauses.{assume_here, faults_here}
use Rattle.state.specs.Of.{as_abstract}
use Rattle.evaluate.specs.declared.types.Ways.{Ways}
use Rattle.evaluate.specs.declared.types.Evaluated.{Evaluated}

-- what is known of variables and arrays; where nothing comes there are none
abbrev pub env_in : Abstract → Env
env_in unreached = record { values = []; arrays = [] }
env_in (reached w) = w

-- what an expression may come to; where nothing comes it has no value and no faults
abbrev pub eval_here : List ℕ → Abstract → Expr → EvalResult
eval_here ns unreached e = eval_result [] []
eval_here ns (reached w) e = eval_interval ns w e

-- the result w is found, and the end of what was read
pub record Evaluates (stop : ℕ) (w : EvalResult) (r : Evaluated) : Type 0 where
  pub result : Says r.result w
  pub end : r.end ≡ stop

-- what is known of h if the test holds, and if it does not, and what may go wrong in it; and the end of what was read
pub record Splits (stop : ℕ) (ns : List ℕ) (h : Abstract) (t : Test) (r : Ways) : Type 0 where
  pub yes : as_abstract r.yes ≡ assume_here ns true t h
  pub no : as_abstract r.no ≡ assume_here ns false t h
  pub faults : Faulty r.faults (faults_here ns t h)
  pub end : r.end ≡ stop
