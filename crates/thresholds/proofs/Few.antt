-- Each threshold costs three bytes of the encoding, so a valid program has at most 11,000. Rests on the lengths of encodings.
use Rattle.std.proofs.Common.{◌≡◌, ℕ, ◌-◌, ◌*◌, ◌≤◌, Bool, true, ltb, List, [], ◌∷◌, ◌++◌, length, arith, length-append}
use Rattle.program.specs.Basics.{filter, flat_map, limit}
use Rattle.program.specs.Syntax.{Expr, num, var, bin, element, Test, less, equal, not_test, and_test, or_test, Stmt, skip, assign, store, input, check, seq, branch, loop, Program}
use Rattle.program.specs.Encoding.{encode_expr, encode_test, encode_stmt, encode_program}
use Rattle.program.specs.Validity.{valid_program}
use Rattle.encoding.proofs.Lengths.{length_eight}
use Rattle.encoding.proofs.Valid.{program_parts, program_length}
use Rattle.analysis.specs.Thresholds.{expr_thresholds, test_thresholds, stmt_thresholds, thresholds}

pub expr_third : (e : Expr) → 3 * length (expr_thresholds e) ≤ length (encode_expr e)
unfolding encode_expr expr_thresholds
expr_third (num n) = omega (arith, length_eight n)
expr_third (var x) = omega arith
expr_third (bin k a b) = simp length-append (omega (arith, expr_third a, expr_third b))
expr_third (element r a) = omega (arith, expr_third a)

pub test_third : (t : Test) → 3 * length (test_thresholds t) ≤ length (encode_test t)
unfolding encode_test test_thresholds
test_third (less a b) = simp length-append (omega (arith, expr_third a, expr_third b))
test_third (equal a b) = simp length-append (omega (arith, expr_third a, expr_third b))
test_third (not_test t) = omega (arith, test_third t)
test_third (and_test t u) = simp length-append (omega (arith, test_third t, test_third u))
test_third (or_test t u) = simp length-append (omega (arith, test_third t, test_third u))

pub stmt_third : (d : Stmt) → 3 * length (stmt_thresholds d) ≤ length (encode_stmt d)
unfolding encode_stmt stmt_thresholds
stmt_third skip = omega arith
stmt_third (assign p x e) = simp length-append (omega (arith, expr_third e))
stmt_third (store p r a e) = simp length-append (omega (arith, expr_third a, expr_third e))
stmt_third (input p x a b) = simp length-append (omega (arith, length_eight p))
stmt_third (check p t) = simp length-append (omega (arith, test_third t))
stmt_third (seq a b) = simp length-append (omega (arith, stmt_third a, stmt_third b))
stmt_third (branch p t a b) = simp length-append (omega (arith, test_third t, stmt_third a, stmt_third b))
stmt_third (loop p t a) = simp length-append (omega (arith, test_third t, stmt_third a))

-- two thresholds for each array
pub arrays_two : (ns : List ℕ) → length (flat_map (λ n. (n - 1) ∷ n ∷ []) ns) ≡ 2 * length ns
arrays_two [] = omega arith
arrays_two (n ∷ ns) = let h = arrays_two ns in omega arith

-- a filter keeps no more
pub filter_shorter : {A : Type 0} (p : A → Bool) (xs : List A) → length (filter p xs) ≤ length xs
filter_shorter p [] = omega arith
filter_shorter p (x ∷ xs) = let h = filter_shorter p xs in grind arith

-- a program's thresholds cost three bytes each
pub program_third : (p : Program) → 3 * length (thresholds p) ≤ length (encode_program p)
program_third p =
    let f = filter_shorter (λ (m : ℕ). ltb m limit) (stmt_thresholds p.body ++ flat_map (λ n. (n - 1) ∷ n ∷ []) p.arrays) in
    let g = simp length-append at f in
    omega (arith, g, stmt_third p.body, arrays_two p.arrays, program_length p)

pub few_thresholds : (p : Program) → valid_program p ≡ true → length (thresholds p) ≤ 11000
few_thresholds p v = omega (arith, program_third p, (program_parts p v).short)
