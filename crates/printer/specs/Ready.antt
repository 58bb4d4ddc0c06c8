-- What stands at a position and is valid, so that it can be printed. Assumes nothing: these are definitions.
use Rattle.std.specs.Prelude.{◌≡◌, ℕ, ◌≤◌, Bool, true, List, length}
use Rattle.program.specs.Syntax.{Expr, Test, Stmt}
use Rattle.program.specs.Encoding.{encode_expr, encode_test, encode_stmt}
use Rattle.program.specs.Validity.{valid_expr, valid_test, valid_stmt}
use Rattle.encoding.specs.Standing.{Stands}

-- these bytes, at most `left` of them, stand at pos
pub record Placed (text : List ℕ) (pos left : ℕ) (bs : List ℕ) : Type 0 where
  pub stands : Stands text pos bs
  pub enough : length bs ≤ left

-- what so is encoded in at most `left` bytes stands at pos, and so is valid
pub record Ready {A : Type 0} (encode : A → List ℕ) (is_valid : ℕ → ℕ → A → Bool) (text : List ℕ) (pos left : ℕ) (x : A) : Type 0 where
  pub variables : ℕ
  pub arrays : ℕ
  pub placed : Placed text pos left (encode x)
  pub valid : is_valid variables arrays x ≡ true

-- a valid expression of at most `left` bytes stands at pos
abbrev pub ExprReady : List ℕ → ℕ → ℕ → Expr → Type 0
ExprReady text pos left e = Ready encode_expr valid_expr text pos left e

-- a valid test
abbrev pub TestReady : List ℕ → ℕ → ℕ → Test → Type 0
TestReady text pos left t = Ready encode_test valid_test text pos left t

-- a valid statement
abbrev pub StmtReady : List ℕ → ℕ → ℕ → Stmt → Type 0
StmtReady text pos left d = Ready encode_stmt valid_stmt text pos left d
