-- Where what stands at a position ends, so that it can be stepped over. Assumes nothing: these are definitions.
use Rattle.std.specs.Prelude.{◌≡◌, ℕ, ◌+◌, List, length}
use Rattle.program.specs.Syntax.{Expr, Test, Stmt}
use Rattle.program.specs.Encoding.{encode_expr, encode_test, encode_stmt}
use Rattle.runner.specs.Ready.{Placed}

-- whatever expression stands at pos ends there
abbrev pub ExprEnds : List ℕ → ℕ → ℕ → ℕ → Type 0
ExprEnds text pos left last = (e : Expr) → Placed text pos left (encode_expr e) → last ≡ pos + length (encode_expr e)

-- whatever two expressions stand at pos, one behind the other
abbrev pub ExprsEnd : List ℕ → ℕ → ℕ → ℕ → Type 0
ExprsEnd text pos left last =
    (a b : Expr) → Placed text pos left (encode_expr a) → Placed text (pos + length (encode_expr a)) left (encode_expr b) →
    last ≡ pos + length (encode_expr a) + length (encode_expr b)

-- whatever test
abbrev pub TestEnds : List ℕ → ℕ → ℕ → ℕ → Type 0
TestEnds text pos left last = (t : Test) → Placed text pos left (encode_test t) → last ≡ pos + length (encode_test t)

-- whatever statement
abbrev pub StmtEnds : List ℕ → ℕ → ℕ → ℕ → Type 0
StmtEnds text pos left last = (d : Stmt) → Placed text pos left (encode_stmt d) → last ≡ pos + length (encode_stmt d)
