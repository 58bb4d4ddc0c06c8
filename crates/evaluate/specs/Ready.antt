-- What stands at a position and is valid, so that it can be worked out there. Assumes nothing: these are definitions.
use Rattle.std.specs.Prelude.{◌≡◌, ℕ, ◌≤◌, true, List, length}
use Rattle.program.specs.Syntax.{Expr, Test}
use Rattle.program.specs.Encoding.{encode_expr, encode_test}
use Rattle.program.specs.Validity.{valid_expr, valid_test}
use Rattle.encoding.specs.Standing.{Stands}

-- a valid expression of at most `left` bytes stands at pos
pub record ExprReady (text : List ℕ) (pos left : ℕ) (e : Expr) : Type 0 where
  pub variables : ℕ
  pub arrays : ℕ
  pub stands : Stands text pos (encode_expr e)
  pub enough : length (encode_expr e) ≤ left
  pub valid : valid_expr variables arrays e ≡ true

-- a valid test of at most `left` bytes stands at pos
pub record TestReady (text : List ℕ) (pos left : ℕ) (t : Test) : Type 0 where
  pub variables : ℕ
  pub arrays : ℕ
  pub stands : Stands text pos (encode_test t)
  pub enough : length (encode_test t) ≤ left
  pub valid : valid_test variables arrays t ≡ true
