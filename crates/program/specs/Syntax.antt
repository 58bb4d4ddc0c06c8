-- The programs that are analysed: expressions, tests, statements. Assumes nothing: these are definitions.
use Rattle.std.specs.Prelude.{List, ℕ}

-- numbers, variables by index, arithmetic, an element of an array
pub data Expr : Type 0 where
  num : ℕ → Expr
  var : ℕ → Expr
  bin : ℕ → Expr → Expr → Expr  -- 0 sum, 1 difference, 2 product, 3 quotient, 4 left over
  element : ℕ → Expr → Expr

-- comparisons, and tests made of tests
pub data Test : Type 0 where
  less : Expr → Expr → Test
  equal : Expr → Expr → Test
  not_test : Test → Test
  and_test : Test → Test → Test
  or_test : Test → Test → Test

-- each statement that does something has a number of its own, here first
pub data Stmt : Type 0 where
  skip : Stmt
  assign : ℕ → ℕ → Expr → Stmt
  store : ℕ → ℕ → Expr → Expr → Stmt
  input : ℕ → ℕ → ℕ → ℕ → Stmt  -- a name gets what comes in, if that's from the one to the other, and the first of these otherwise
  check : ℕ → Test → Stmt
  seq : Stmt → Stmt → Stmt
  branch : ℕ → Test → Stmt → Stmt → Stmt
  loop : ℕ → Test → Stmt → Stmt

-- how many variables, how long each array is, and what is done
pub record Program : Type 0 where
  pub vars : ℕ
  pub arrays : List ℕ
  pub body : Stmt
