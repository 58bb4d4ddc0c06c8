-- How long encodings are at least, and that a statement with a number has twelve bytes or more. Rests on the definitions alone.
use Rattle.std.proofs.Common.{◌≡◌, ℕ, ◌*◌, ◌≤◌, List, [], ◌∷◌, length, refl, arith, length-append}
use Rattle.program.specs.Basics.{eight, in_bytes, flat_map}
use Rattle.program.specs.Syntax.{Expr, num, var, bin, element, Test, less, equal, not_test, and_test, or_test, Stmt, skip, assign, store, input, check, seq, branch, loop}
use Rattle.program.specs.Encoding.{encode_expr, encode_test, encode_stmt}
use Rattle.program.specs.Validity.{stmt_numbers}

pub length_eight : (n : ℕ) → length (eight n) ≡ 8
unfolding in_bytes
length_eight n = refl

pub length_eights : (ns : List ℕ) → length (flat_map eight ns) ≡ 8 * length ns
length_eights [] = refl
length_eights (n ∷ ns) = let h = length_eights ns in simp length-append (omega (arith, length_eight n))

-- an expression has at least two bytes
pub expr_long : (e : Expr) → 2 ≤ length (encode_expr e)
unfolding encode_expr
expr_long (num n) = omega (arith, length_eight n)
expr_long (var x) = omega arith
expr_long (bin k a b) = let h = expr_long a in simp length-append (omega arith)
expr_long (element r a) = let h = expr_long a in omega arith

-- a test has at least five
pub test_long : (t : Test) → 5 ≤ length (encode_test t)
unfolding encode_test
test_long (less a b) = simp length-append (omega (arith, expr_long a, expr_long b))
test_long (equal a b) = simp length-append (omega (arith, expr_long a, expr_long b))
test_long (not_test t) = let h = test_long t in omega arith
test_long (and_test t u) = let h = test_long t in simp length-append (omega arith)
test_long (or_test t u) = let h = test_long t in simp length-append (omega arith)

-- a statement has at least one
pub stmt_long : (d : Stmt) → 1 ≤ length (encode_stmt d)
unfolding encode_stmt
stmt_long skip = omega arith
stmt_long (assign p x e) = omega arith
stmt_long (store p r a e) = omega arith
stmt_long (input p x a b) = omega arith
stmt_long (check p t) = omega arith
stmt_long (seq a b) = omega arith
stmt_long (branch p t a b) = omega arith
stmt_long (loop p t a) = omega arith

-- a statement with a number has at least twelve
pub numbers_twelfth : (d : Stmt) → 12 * length (stmt_numbers d) ≤ length (encode_stmt d)
unfolding encode_stmt stmt_numbers
numbers_twelfth skip = omega arith
numbers_twelfth (assign p x e) = simp length-append (omega (arith, length_eight p, expr_long e))
numbers_twelfth (store p r a e) = simp length-append (omega (arith, length_eight p, expr_long a, expr_long e))
numbers_twelfth (input p x a b) = simp length-append (omega (arith, length_eight p, length_eight a, length_eight b))
numbers_twelfth (check p t) = simp length-append (omega (arith, length_eight p, test_long t))
numbers_twelfth (seq a b) = simp length-append (omega (arith, numbers_twelfth a, numbers_twelfth b))
numbers_twelfth (branch p t a b) = simp length-append (omega (arith, length_eight p, test_long t, numbers_twelfth a, numbers_twelfth b))
numbers_twelfth (loop p t a) = simp length-append (omega (arith, length_eight p, test_long t, numbers_twelfth a))
