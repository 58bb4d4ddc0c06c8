-- A valid program has at most 10,919 thresholds, so that they fit the scratch, and its round limit is at most 1,747,365. Rests on the lengths of
-- encodings.
use Rattle.std.proofs.Common.{◌≡◌, ℕ, suc, ◌+◌, ◌-◌, ◌*◌, ◌≤◌, Bool, true, false, cond, ltb, List, [], ◌∷◌, ◌++◌, length, refl, mul-le-mul, arith, length-append}
use Rattle.program.specs.Basics.{filter, flat_map, limit}
use Rattle.program.specs.Syntax.{Expr, num, var, bin, element, Test, less, equal, not_test, and_test, or_test, Stmt, skip, assign, store, input, check, seq, branch, loop, Program}
use Rattle.program.specs.Encoding.{encode_expr, encode_test, encode_stmt}
use Rattle.program.specs.Validity.{valid_program}
use Rattle.analysis.specs.Thresholds.{expr_thresholds, test_thresholds, stmt_thresholds, thresholds}
use Rattle.analysis.specs.Whole.{round_limit}
use Rattle.encoding.proofs.Lengths.{length_eight}
use Rattle.encoding.proofs.Valid.{program_parts, program_length}
use Rattle.model.specs.Memory.{scratch}

-- three bytes for each threshold
expr_third : (e : Expr) → 3 * length (expr_thresholds e) ≤ length (encode_expr e)
unfolding expr_thresholds encode_expr
expr_third (num n) = omega (arith, length_eight n)
expr_third (var x) = omega arith
expr_third (bin k a b) = simp length-append (omega (arith, expr_third a, expr_third b))
expr_third (element r a) = omega (arith, expr_third a)

test_third : (t : Test) → 3 * length (test_thresholds t) ≤ length (encode_test t)
unfolding test_thresholds encode_test
test_third (less a b) = simp length-append (omega (arith, expr_third a, expr_third b))
test_third (equal a b) = simp length-append (omega (arith, expr_third a, expr_third b))
test_third (not_test t) = omega (arith, test_third t)
test_third (and_test t u) = simp length-append (omega (arith, test_third t, test_third u))
test_third (or_test t u) = simp length-append (omega (arith, test_third t, test_third u))

stmt_third : (d : Stmt) → 3 * length (stmt_thresholds d) ≤ length (encode_stmt d)
unfolding stmt_thresholds encode_stmt
stmt_third skip = omega arith
stmt_third (assign p x e) = simp length-append (omega (arith, length_eight p, expr_third e))
stmt_third (store p r a e) = simp length-append (omega (arith, length_eight p, expr_third a, expr_third e))
stmt_third (input p x a b) = simp length-append (omega (arith, length_eight p, length_eight a, length_eight b))
stmt_third (check p t) = simp length-append (omega (arith, length_eight p, test_third t))
stmt_third (seq a b) = simp length-append (omega (arith, stmt_third a, stmt_third b))
stmt_third (branch p t a b) = simp length-append (omega (arith, length_eight p, test_third t, stmt_third a, stmt_third b))
stmt_third (loop p t a) = simp length-append (omega (arith, length_eight p, test_third t, stmt_third a))

pairs_length : (ns : List ℕ) → length (flat_map (λ n. (n - 1) ∷ n ∷ []) ns) ≡ 2 * length ns
pairs_length [] = refl
pairs_length (n ∷ ns) = let e = pairs_length ns in omega arith

filter_length : {A : Type 0} (f : A → Bool) (xs : List A) → length (filter f xs) ≤ length xs
filter_length f [] = omega arith
filter_length f (x ∷ xs) = go (f x) (filter_length f xs)
  where
    go : (b : Bool) → length (filter f xs) ≤ length xs → length (cond b (x ∷ filter f xs) (filter f xs)) ≤ suc (length xs)
    go true h = omega arith
    go false h = omega arith

pub few_thresholds : (p : Program) → valid_program p ≡ true → length (thresholds p) ≤ 10919
few_thresholds p v =
    let all = stmt_thresholds p.body ++ flat_map (λ (n : ℕ). (n - 1) ∷ n ∷ []) p.arrays in
    let l = length-append (stmt_thresholds p.body) (flat_map (λ (n : ℕ). (n - 1) ∷ n ∷ []) p.arrays) in
    omega (arith, filter_length (λ m. ltb m limit) all, pairs_length p.arrays, stmt_third p.body, (program_parts p v).short, program_length p)

-- they fit the scratch
pub thresholds_fit : (p : Program) → valid_program p ≡ true → length (thresholds p) ≤ scratch
thresholds_fit p v = omega (arith, few_thresholds p v)

pub few_rounds : (p : Program) → valid_program p ≡ true → round_limit p ≤ 1747365
few_rounds p v =
    let q = program_parts p v in
    let a : 2 * (p.vars + length p.arrays) ≤ 160 = omega (arith, q.vars, q.arrays) in
    let b : 2 + length (thresholds p) ≤ 10921 = omega (arith, few_thresholds p v) in
    let c = mul-le-mul a b in
    omega arith
