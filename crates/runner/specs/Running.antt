-- What the code ensures where it runs statements: of whatever stands there, ready to be run, the run is that of the definitions.
-- The arguments are what stays the same, the states before and after, and what the function is given. Assumes nothing: these are definitions.
use Rattle.std.specs.Prelude.{ℕ, ◌+◌, ◌<◌, List, length, Ok, Result, slice_index}
use Rattle.program.specs.Basics.{eight, limit}
use Rattle.program.specs.Syntax.{Expr, Test, Stmt, assign, store, input, check, branch, loop}
use Rattle.program.specs.Encoding.{encode_expr, encode_test, encode_stmt}
use Rattle.program.specs.Semantics.{eval_test, run}
use Rattle.encoding.specs.Standing.{Stands}
use Rattle.runner.specs.Found.{VerdictOrStop, Runs}
use Rattle.runner.specs.Of.{as_state}
use Rattle.runner.specs.Ready.{ExprReady, TestReady, StmtReady}
use Rattle.runner.specs.declared.types.State.{State}
use Rattle.runner.specs.declared.types.Stop.{Stop}
use Rattle.runner.specs.declared.types.Task.{Task}
use Rattle.runner.specs.declared.types.Verdict.{Verdict}

-- what a test of the statement p comes to
abbrev pub VerdictAt : Task → State → ℕ → ℕ → ℕ → Result Verdict Stop → Type 0
VerdictAt task m p pos left r =
    (ins : List ℕ) (t : Test) → TestReady task.text.now pos left t → VerdictOrStop p (pos + length (encode_test t)) (eval_test (as_state ins m) t) r

-- the statement's run from the state m ends in the state m₁, and its bytes at `stop`; or it stops
abbrev pub RunsTo : Task → State → State → ℕ → Stmt → Result ℕ Stop → Type 0
RunsTo task m m₁ stop d r = Runs stop (run task.rounds d (as_state task.inputs.now m)) (as_state task.inputs.now m₁) r

-- the statement that stands at pos
abbrev pub RunsStmt : Task → State → State → ℕ → ℕ → Result ℕ Stop → Type 0
RunsStmt task m m₁ pos left r = (d : Stmt) → StmtReady task.text.now pos left d → RunsTo task m m₁ (pos + length (encode_stmt d)) d r

-- a statement of one kind, number p, of which what comes behind the number stands at pos

abbrev pub RunsAssign : Task → State → State → ℕ → ℕ → ℕ → Result ℕ Stop → Type 0
RunsAssign task m m₁ p pos left r =
    (e : Expr) → ExprReady task.text.now (pos + 1) left e → RunsTo task m m₁ (pos + 1 + length (encode_expr e)) (assign p (slice_index task.text.now pos) e) r

abbrev pub RunsStore : Task → State → State → ℕ → ℕ → ℕ → Result ℕ Stop → Type 0
RunsStore task m m₁ p pos left r =
    (a e : Expr) → ExprReady task.text.now (pos + 1) left a → ExprReady task.text.now (pos + 1 + length (encode_expr a)) left e →
    RunsTo task m m₁ (pos + 1 + length (encode_expr a) + length (encode_expr e)) (store p (slice_index task.text.now pos) a e) r

-- the bounds of an input
pub record BoundsAt (text : List ℕ) (pos a b : ℕ) : Type 0 where
  pub low : Stands text pos (eight a)
  pub high : Stands text (pos + 8) (eight b)
  pub low_small : a < limit
  pub high_small : b < limit

abbrev pub RunsInput : Task → State → State → ℕ → ℕ → Type 0
RunsInput task m m₁ pos last = (p a b : ℕ) → BoundsAt task.text.now (pos + 1) a b → RunsTo task m m₁ (pos + 17) (input p (slice_index task.text.now pos) a b) (Ok last)

abbrev pub RunsCheck : Task → State → ℕ → ℕ → ℕ → Result ℕ Stop → Type 0
RunsCheck task m p pos left r = (t : Test) → TestReady task.text.now pos left t → RunsTo task m m (pos + length (encode_test t)) (check p t) r

abbrev pub RunsBranch : Task → State → State → ℕ → ℕ → ℕ → Result ℕ Stop → Type 0
RunsBranch task m m₁ p pos left r =
    (t : Test) (a b : Stmt) → TestReady task.text.now pos left t → StmtReady task.text.now (pos + length (encode_test t)) left a →
    StmtReady task.text.now (pos + length (encode_test t) + length (encode_stmt a)) left b →
    RunsTo task m m₁ (pos + length (encode_test t) + length (encode_stmt a) + length (encode_stmt b)) (branch p t a b) r

abbrev pub RunsLoop : Task → State → State → ℕ → ℕ → ℕ → Result ℕ Stop → Type 0
RunsLoop task m m₁ p pos left r =
    (t : Test) (a : Stmt) → TestReady task.text.now pos left t → StmtReady task.text.now (pos + length (encode_test t)) left a →
    RunsTo task m m₁ (pos + length (encode_test t) + length (encode_stmt a)) (loop p t a) r
