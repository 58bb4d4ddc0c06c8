-- What the code ensures where it works out expressions and tests: of whatever stands there, ready to be run, the value is that of the definitions.
-- The arguments are the text, the state, and what the function is given. Assumes nothing: these are definitions.
use Rattle.std.specs.Prelude.{ℕ, ◌+◌, List, length, Result}
use Rattle.program.specs.Syntax.{Expr, Test}
use Rattle.program.specs.Encoding.{encode_expr, encode_test}
use Rattle.program.specs.Semantics.{eval, eval_test}
use Rattle.runner.specs.Found.{Evaluates, Pairs, Tests}
use Rattle.runner.specs.Of.{as_state}
use Rattle.runner.specs.Ready.{ExprReady, TestReady}
use Rattle.runner.specs.declared.types.EvalError.{EvalError}
use Rattle.runner.specs.declared.types.Pair.{Pair}
use Rattle.runner.specs.declared.types.State.{State}
use Rattle.runner.specs.declared.types.Value.{Value}
use Rattle.runner.specs.declared.types.Verdict.{Verdict}

-- the expression that stands at pos
abbrev pub EvaluatesAt : List ℕ → State → ℕ → ℕ → Result Value EvalError → Type 0
EvaluatesAt text m pos left r = (ins : List ℕ) (e : Expr) → ExprReady text pos left e → Evaluates (pos + length (encode_expr e)) (eval (as_state ins m) e) r

-- the two expressions that stand at pos, one behind the other
abbrev pub PairsAt : List ℕ → State → ℕ → ℕ → Result Pair EvalError → Type 0
PairsAt text m pos left r =
    (ins : List ℕ) (a b : Expr) → ExprReady text pos left a → ExprReady text (pos + length (encode_expr a)) left b →
    Pairs (pos + length (encode_expr a) + length (encode_expr b)) (eval (as_state ins m) a) (eval (as_state ins m) b) r

-- the test that stands at pos
abbrev pub TestsAt : List ℕ → State → ℕ → ℕ → Result Verdict EvalError → Type 0
TestsAt text m pos left r = (ins : List ℕ) (t : Test) → TestReady text pos left t → Tests (pos + length (encode_test t)) (eval_test (as_state ins m) t) r
