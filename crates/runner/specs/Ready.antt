-- What stands at a position, so that it can be stepped over; and what is valid too, so that it can be run. Assumes nothing: these are definitions.
use Rattle.std.specs.Prelude.{◌≡◌, ℕ, ◌<◌, ◌≤◌, true, List, length}
use Rattle.std.specs.List.{AllByRecursion}
use Rattle.program.specs.Syntax.{Expr, Test, Stmt}
use Rattle.program.specs.Encoding.{encode_expr, encode_test, encode_stmt}
use Rattle.program.specs.Validity.{valid_expr, valid_test, valid_stmt, stmt_numbers}
use Rattle.encoding.specs.Standing.{Stands}

-- these bytes, at most `left` of them, stand at pos
pub record Placed (text : List ℕ) (pos left : ℕ) (bs : List ℕ) : Type 0 where
  pub stands : Stands text pos bs
  pub enough : length bs ≤ left

-- a valid expression of at most `left` bytes stands at pos
pub record ExprReady (text : List ℕ) (pos left : ℕ) (e : Expr) : Type 0 where
  pub variables : ℕ
  pub arrays : ℕ
  pub placed : Placed text pos left (encode_expr e)
  pub valid : valid_expr variables arrays e ≡ true

-- a valid test
pub record TestReady (text : List ℕ) (pos left : ℕ) (t : Test) : Type 0 where
  pub variables : ℕ
  pub arrays : ℕ
  pub placed : Placed text pos left (encode_test t)
  pub valid : valid_test variables arrays t ≡ true

-- a valid statement, whose statements' numbers have at most 64 bits
pub record StmtReady (text : List ℕ) (pos left : ℕ) (d : Stmt) : Type 0 where
  pub variables : ℕ
  pub arrays : ℕ
  pub placed : Placed text pos left (encode_stmt d)
  pub valid : valid_stmt variables arrays d ≡ true
  pub numbers : AllByRecursion (λ p. p < 18446744073709551616) (stmt_numbers d)
