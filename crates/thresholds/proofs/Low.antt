-- The thresholds of valid expressions, tests and statements can be told from their bytes. Rests on the definitions alone.
use Rattle.std.proofs.Common.{◌≡◌, ℕ, true, ◌&&◌, ltb, leb, ◌++◌, arith}
use Rattle.std.proofs.ByRecursion.{All-append}
use Rattle.std.proofs.lemmas.Bool.{and_parts, ltb-true, leb-true}
use Rattle.std.specs.List.{AllByRecursion as All}
use Rattle.program.specs.Basics.{limit}
use Rattle.program.specs.Syntax.{Expr, num, var, bin, element, Test, less, equal, not_test, and_test, or_test, Stmt, skip, assign, store, input, check, seq, branch, loop}
use Rattle.program.specs.Validity.{valid_expr, valid_test, valid_condition, test_size, valid_stmt}
use Rattle.analysis.specs.Thresholds.{expr_thresholds, test_thresholds, stmt_thresholds}
use Rattle.thresholds.specs.Collecting.{Low}

expr_low : (n a : ℕ) (e : Expr) → valid_expr n a e ≡ true → All Low (expr_thresholds e)
unfolding valid_expr expr_thresholds
expr_low n a (num k) v = let l = ltb-true k limit v in (omega arith, (omega arith, (omega arith, tt)))
expr_low n a (var x) v = tt
expr_low n a (bin k x y) v =
    let q = and_parts (ltb k 5) (valid_expr n a x && valid_expr n a y) v in
    let r = and_parts (valid_expr n a x) (valid_expr n a y) q.1 in
    All-append Low (expr_thresholds x) (expr_thresholds y) (expr_low n a x r.0) (expr_low n a y r.1)
expr_low n a (element s x) v = expr_low n a x (and_parts (ltb s a) (valid_expr n a x) v).1

test_low : (n a : ℕ) (t : Test) → valid_test n a t ≡ true → All Low (test_thresholds t)
unfolding valid_test test_thresholds
test_low n a (less x y) v =
    let r = and_parts (valid_expr n a x) (valid_expr n a y) v in All-append Low (expr_thresholds x) (expr_thresholds y) (expr_low n a x r.0) (expr_low n a y r.1)
test_low n a (equal x y) v =
    let r = and_parts (valid_expr n a x) (valid_expr n a y) v in All-append Low (expr_thresholds x) (expr_thresholds y) (expr_low n a x r.0) (expr_low n a y r.1)
test_low n a (not_test t) v = test_low n a t v
test_low n a (and_test t u) v =
    let r = and_parts (valid_test n a t) (valid_test n a u) v in All-append Low (test_thresholds t) (test_thresholds u) (test_low n a t r.0) (test_low n a u r.1)
test_low n a (or_test t u) v =
    let r = and_parts (valid_test n a t) (valid_test n a u) v in All-append Low (test_thresholds t) (test_thresholds u) (test_low n a t r.0) (test_low n a u r.1)

condition_low : (n a : ℕ) (t : Test) → valid_condition n a t ≡ true → All Low (test_thresholds t)
condition_low n a t v = test_low n a t (and_parts (valid_test n a t) (leb (test_size t) 63) v).0

pub stmt_low : (n a : ℕ) (d : Stmt) → valid_stmt n a d ≡ true → All Low (stmt_thresholds d)
unfolding valid_stmt stmt_thresholds
stmt_low n a skip v = tt
stmt_low n a (assign p x e) v = expr_low n a e (and_parts (ltb x n) (valid_expr n a e) v).1
stmt_low n a (store p s i e) v =
    let q = and_parts (ltb s a) (valid_expr n a i && valid_expr n a e) v in
    let r = and_parts (valid_expr n a i) (valid_expr n a e) q.1 in
    All-append Low (expr_thresholds i) (expr_thresholds e) (expr_low n a i r.0) (expr_low n a e r.1)
stmt_low n a (input p x l h) v =
    let q = and_parts (ltb x n) (leb l h && ltb h limit) v in
    let r = and_parts (leb l h) (ltb h limit) q.1 in
    let i = leb-true l h r.0 in let j = ltb-true h limit r.1 in
    (omega arith, (omega arith, tt))
stmt_low n a (check p t) v = condition_low n a t v
stmt_low n a (seq d e) v =
    let r = and_parts (valid_stmt n a d) (valid_stmt n a e) v in All-append Low (stmt_thresholds d) (stmt_thresholds e) (stmt_low n a d r.0) (stmt_low n a e r.1)
stmt_low n a (branch p t d e) v =
    let q = and_parts (valid_condition n a t) (valid_stmt n a d && valid_stmt n a e) v in
    let r = and_parts (valid_stmt n a d) (valid_stmt n a e) q.1 in
    All-append Low (test_thresholds t ++ stmt_thresholds d) (stmt_thresholds e)
    (All-append Low (test_thresholds t) (stmt_thresholds d) (condition_low n a t q.0) (stmt_low n a d r.0)) (stmt_low n a e r.1)
stmt_low n a (loop p t d) v =
    let q = and_parts (valid_condition n a t) (valid_stmt n a d) v in
    All-append Low (test_thresholds t) (stmt_thresholds d) (condition_low n a t q.0) (stmt_low n a d q.1)
