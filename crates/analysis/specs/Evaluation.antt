-- Expressions on intervals. Assumes nothing: these are definitions.
use Rattle.std.specs.Prelude.{ℕ, List, [], ◌∷◌, slice_index}
use Rattle.program.specs.Syntax.{Expr, num, var, bin, element}
use Rattle.interval.specs.Arithmetic.{EvalResult, eval_result, capped, interval_op, element_of, with_faults, if_two, if_one}
use Rattle.analysis.specs.AbstractState.{Env, nth_interval}

-- the interval of an expression
unfoldable pub eval_interval : List ℕ → Env → Expr → EvalResult
eval_interval ns w (num n) = capped n n
eval_interval ns w (var x) = eval_result (nth_interval w.values x ∷ []) []
eval_interval ns w (bin k a b) =
    with_faults (eval_interval ns w a).faults (if_one (eval_interval ns w a).intervals (λ s. with_faults (eval_interval ns w b).faults (if_two (eval_interval ns w a).intervals (eval_interval ns w b).intervals (interval_op k))))
eval_interval ns w (element r a) = with_faults (eval_interval ns w a).faults (if_one (eval_interval ns w a).intervals (element_of (slice_index ns r) (nth_interval w.arrays r)))
