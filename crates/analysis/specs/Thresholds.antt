-- The numbers at which widening stops. Assumes nothing: these are definitions.
use Rattle.std.specs.Prelude.{ℕ, suc, ◌-◌, List, [], ◌∷◌, ◌++◌, nat_lt}
use Rattle.program.specs.Basics.{filter, flat_map, limit}
use Rattle.program.specs.Syntax.{Expr, num, var, bin, element, Test, less, equal, not_test, and_test, or_test, Stmt, skip, assign, store, input, check, seq, branch, loop, Program}

-- the numbers in an expression, and those beside them
unfoldable pub expr_thresholds : Expr → List ℕ
expr_thresholds (num n) = (n - 1) ∷ n ∷ suc n ∷ []
expr_thresholds (var x) = []
expr_thresholds (bin k a b) = expr_thresholds a ++ expr_thresholds b
expr_thresholds (element r a) = expr_thresholds a

-- the same of a test
unfoldable pub test_thresholds : Test → List ℕ
test_thresholds (less a b) = expr_thresholds a ++ expr_thresholds b
test_thresholds (equal a b) = expr_thresholds a ++ expr_thresholds b
test_thresholds (not_test t) = test_thresholds t
test_thresholds (and_test t u) = test_thresholds t ++ test_thresholds u
test_thresholds (or_test t u) = test_thresholds t ++ test_thresholds u

-- the same of a statement, and the ends of inputs
unfoldable pub stmt_thresholds : Stmt → List ℕ
stmt_thresholds skip = []
stmt_thresholds (assign p x e) = expr_thresholds e
stmt_thresholds (store p r a e) = expr_thresholds a ++ expr_thresholds e
stmt_thresholds (input p x a b) = a ∷ b ∷ []
stmt_thresholds (check p t) = test_thresholds t
stmt_thresholds (seq a b) = stmt_thresholds a ++ stmt_thresholds b
stmt_thresholds (branch p t a b) = test_thresholds t ++ stmt_thresholds a ++ stmt_thresholds b
stmt_thresholds (loop p t a) = test_thresholds t ++ stmt_thresholds a

-- all of a program's thresholds, its arrays' lengths and one less among them
abbrev pub thresholds : Program → List ℕ
thresholds p = filter (λ m. nat_lt m limit) (stmt_thresholds p.body ++ flat_map (λ n. (n - 1) ∷ n ∷ []) p.arrays)
