-- The reader gives back what was encoded, whatever stands behind it: expressions, tests and statements. Rests on the definitions alone.
use Rattle.std.proofs.Common.{◌≡◌, ℕ, zero, suc, ◌+◌, ◌<◌, ◌≤◌, true, ◌&&◌, ltb, leb, List, [], ◌∷◌, ◌++◌, length, refl, ap, append_assoc, arith, length-append}
use Rattle.std.proofs.lemmas.Bool.{ltb-true, leb-true, and_parts}
use Rattle.std.specs.List.{AllByRecursion as All}
use Rattle.program.specs.Basics.{eight, in_bytes, limit}
use Rattle.program.specs.Syntax.{Expr, num, var, bin, element, Test, less, equal, not_test, and_test, or_test, Stmt, skip, assign, store, input, check, seq, branch, loop}
use Rattle.program.specs.Encoding.{encode_expr, encode_test, encode_stmt}
use Rattle.program.specs.Validity.{valid_expr, valid_test, valid_stmt, test_size, valid_condition, stmt_numbers}
use Rattle.encoding.specs.Reader.{ok, Reader, and_read, read_byte, read_digits, read_eight, by_tag, read_expr, read_test, read_stmt}

-- with enough levels the reader r gives a back from bs, and stops behind them
abbrev pub Back : {A : Type 0} → (ℕ → Reader A) → List ℕ → A → Type 0
Back r bs a = (f : ℕ) (xs : List ℕ) → length bs ≤ f → r f (bs ++ xs) ≡ ok a xs

pub eight_back : (n : ℕ) (xs : List ℕ) → n < 18446744073709551616 → read_eight (eight n ++ xs) ≡ ok n xs
unfolding in_bytes read_digits
eight_back n xs h = ap (λ (v : ℕ). ok v xs) (omega arith)

-- two parts, the one behind the other
two_back : {A B C : Type 0} (r : ℕ → Reader A) (q : ℕ → Reader B) (make : A → B → C) (a : A) (b : B) (as₁ bs : List ℕ) → Back r as₁ a → Back q bs b →
    (f : ℕ) (xs : List ℕ) → length as₁ + length bs ≤ f → and_read (r f (as₁ ++ (bs ++ xs))) (λ x ys. and_read (q f ys) (λ y zs. ok (make x y) zs)) ≡ ok (make a b) xs
unfolding and_read
two_back r q make a b as₁ bs h k f xs l = rw (h f (bs ++ xs) (omega arith), k f xs (omega arith)) refl

pub expr_back : (n r : ℕ) (e : Expr) → valid_expr n r e ≡ true → Back read_expr (encode_expr e) e
unfolding encode_expr valid_expr read_expr and_read read_byte by_tag
expr_back n r (num k) v zero xs h = absurd (omega arith)
expr_back n r (var x) v zero xs h = absurd (omega arith)
expr_back n r (bin k a b) v zero xs h = absurd (omega arith)
expr_back n r (element s a) v zero xs h = absurd (omega arith)
expr_back n r (num k) v (suc f) xs h = rw (eight_back k xs (omega (arith, ltb-true k limit v))) refl
expr_back n r (var x) v (suc f) xs h = refl
expr_back n r (bin k a b) v (suc f) xs h =
    let q = and_parts (ltb k 5) (valid_expr n r a && valid_expr n r b) v in
    let w = and_parts (valid_expr n r a) (valid_expr n r b) q.1 in
    let l = length-append (encode_expr a) (encode_expr b) in
    rw (append_assoc (encode_expr a) (encode_expr b) xs)
    (two_back read_expr read_expr (bin k) a b (encode_expr a) (encode_expr b) (expr_back n r a w.0) (expr_back n r b w.1) f xs (omega arith))
expr_back n r (element s a) v (suc f) xs h =
    let q = and_parts (ltb s r) (valid_expr n r a) v in
    rw (expr_back n r a q.1 f xs (omega arith)) refl

-- both sides of a comparison
two_exprs_back : {A : Type 0} (n r : ℕ) (make : Expr → Expr → A) (a b : Expr) → (valid_expr n r a && valid_expr n r b) ≡ true → (f : ℕ) (xs : List ℕ) → length (encode_expr a ++ encode_expr b) ≤ f →
    and_read (read_expr f ((encode_expr a ++ encode_expr b) ++ xs)) (λ x ys. and_read (read_expr f ys) (λ y zs. ok (make x y) zs)) ≡ ok (make a b) xs
two_exprs_back n r make a b v f xs h =
    let w = and_parts (valid_expr n r a) (valid_expr n r b) v in
    let l = length-append (encode_expr a) (encode_expr b) in
    rw (append_assoc (encode_expr a) (encode_expr b) xs)
    (two_back read_expr read_expr make a b (encode_expr a) (encode_expr b) (expr_back n r a w.0) (expr_back n r b w.1) f xs (omega arith))

pub test_back : (n r : ℕ) (t : Test) → valid_test n r t ≡ true → Back read_test (encode_test t) t
unfolding encode_test valid_test read_test and_read read_byte by_tag
test_back n r (less a b) v zero xs h = absurd (omega arith)
test_back n r (equal a b) v zero xs h = absurd (omega arith)
test_back n r (not_test t) v zero xs h = absurd (omega arith)
test_back n r (and_test t u) v zero xs h = absurd (omega arith)
test_back n r (or_test t u) v zero xs h = absurd (omega arith)
test_back n r (less a b) v (suc f) xs h = two_exprs_back n r less a b v f xs (omega arith)
test_back n r (equal a b) v (suc f) xs h = two_exprs_back n r equal a b v f xs (omega arith)
test_back n r (not_test t) v (suc f) xs h = rw (test_back n r t v f xs (omega arith)) refl
test_back n r (and_test t u) v (suc f) xs h =
    let w = and_parts (valid_test n r t) (valid_test n r u) v in
    let l = length-append (encode_test t) (encode_test u) in
    rw (append_assoc (encode_test t) (encode_test u) xs)
    (two_back read_test read_test and_test t u (encode_test t) (encode_test u) (test_back n r t w.0) (test_back n r u w.1) f xs (omega arith))
test_back n r (or_test t u) v (suc f) xs h =
    let w = and_parts (valid_test n r t) (valid_test n r u) v in
    let l = length-append (encode_test t) (encode_test u) in
    rw (append_assoc (encode_test t) (encode_test u) xs)
    (two_back read_test read_test or_test t u (encode_test t) (encode_test u) (test_back n r t w.0) (test_back n r u w.1) f xs (omega arith))

-- a number of eight bytes
abbrev pub Word : ℕ → Type 0
Word n = n < 18446744073709551616

pub all_two : {A : Type 0} (P : A → Type 0) (xs ys : List A) → All P (xs ++ ys) → All P xs × All P ys
all_two P [] ys h = (tt, h)
all_two P (x ∷ xs) ys h = let q = all_two P xs ys h.1 in ((h.0, q.0), q.1)

pub stmt_back : (n r : ℕ) (d : Stmt) → valid_stmt n r d ≡ true → All Word (stmt_numbers d) → Back read_stmt (encode_stmt d) d
unfolding encode_stmt valid_stmt read_stmt stmt_numbers and_read read_byte by_tag
stmt_back n r skip v ws zero xs h = absurd (omega arith)
stmt_back n r (assign p x e) v ws zero xs h = absurd (omega arith)
stmt_back n r (store p s a e) v ws zero xs h = absurd (omega arith)
stmt_back n r (input p x a b) v ws zero xs h = absurd (omega arith)
stmt_back n r (check p t) v ws zero xs h = absurd (omega arith)
stmt_back n r (seq a b) v ws zero xs h = absurd (omega arith)
stmt_back n r (branch p t a b) v ws zero xs h = absurd (omega arith)
stmt_back n r (loop p t a) v ws zero xs h = absurd (omega arith)
stmt_back n r skip v ws (suc f) xs h = refl
stmt_back n r (assign p x e) v ws (suc f) xs h =
    let q = and_parts (ltb x n) (valid_expr n r e) v in
    let l = length-append (eight p) (x ∷ encode_expr e) in
    rw (append_assoc (eight p) (x ∷ encode_expr e) xs, eight_back p (x ∷ encode_expr e ++ xs) ws.0, expr_back n r e q.1 f xs (omega arith)) refl
stmt_back n r (store p s a e) v ws (suc f) xs h =
    let q = and_parts (ltb s r) (valid_expr n r a && valid_expr n r e) v in
    let w = and_parts (valid_expr n r a) (valid_expr n r e) q.1 in
    let l = length-append (eight p ++ s ∷ encode_expr a) (encode_expr e) in
    let m = length-append (eight p) (s ∷ encode_expr a) in
    rw (append_assoc (eight p ++ s ∷ encode_expr a) (encode_expr e) xs, append_assoc (eight p) (s ∷ encode_expr a) (encode_expr e ++ xs), eight_back p (s ∷ encode_expr a ++ (encode_expr e ++ xs)) ws.0)
    (two_back read_expr read_expr (store p s) a e (encode_expr a) (encode_expr e) (expr_back n r a w.0) (expr_back n r e w.1) f xs (omega arith))
stmt_back n r (input p x a b) v ws (suc f) xs h =
    let q = and_parts (ltb x n) (leb a b && ltb b limit) v in
    let w = and_parts (leb a b) (ltb b limit) q.1 in
    let low = leb-true a b w.0 in
    let high = ltb-true b limit w.1 in
    rw (
      append_assoc (eight p ++ x ∷ eight a) (eight b) xs,
      append_assoc (eight p) (x ∷ eight a) (eight b ++ xs),
      eight_back p (x ∷ eight a ++ (eight b ++ xs)) ws.0,
      eight_back a (eight b ++ xs) (omega arith),
      eight_back b xs (omega arith),
    ) refl
stmt_back n r (check p t) v ws (suc f) xs h =
    let q = and_parts (valid_test n r t) (leb (test_size t) 63) v in
    let l = length-append (eight p) (encode_test t) in
    rw (append_assoc (eight p) (encode_test t) xs, eight_back p (encode_test t ++ xs) ws.0, test_back n r t q.0 f xs (omega arith)) refl
stmt_back n r (seq a b) v ws (suc f) xs h =
    let w = and_parts (valid_stmt n r a) (valid_stmt n r b) v in
    let l = length-append (encode_stmt a) (encode_stmt b) in
    let ps = all_two Word (stmt_numbers a) (stmt_numbers b) ws in
    rw (append_assoc (encode_stmt a) (encode_stmt b) xs)
    (two_back read_stmt read_stmt seq a b (encode_stmt a) (encode_stmt b) (stmt_back n r a w.0 ps.0) (stmt_back n r b w.1 ps.1) f xs (omega arith))
stmt_back n r (branch p t a b) v ws (suc f) xs h =
    let q = and_parts (valid_condition n r t) (valid_stmt n r a && valid_stmt n r b) v in
    let o = and_parts (valid_test n r t) (leb (test_size t) 63) q.0 in
    let w = and_parts (valid_stmt n r a) (valid_stmt n r b) q.1 in
    let l = length-append (eight p ++ encode_test t ++ encode_stmt a) (encode_stmt b) in
    let m = length-append (eight p ++ encode_test t) (encode_stmt a) in
    let k = length-append (eight p) (encode_test t) in
    let ps = all_two Word (stmt_numbers a) (stmt_numbers b) ws.1 in
    rw (
      append_assoc (eight p ++ encode_test t ++ encode_stmt a) (encode_stmt b) xs,
      append_assoc (eight p ++ encode_test t) (encode_stmt a) (encode_stmt b ++ xs),
      append_assoc (eight p) (encode_test t) (encode_stmt a ++ (encode_stmt b ++ xs)),
      eight_back p (encode_test t ++ (encode_stmt a ++ (encode_stmt b ++ xs))) ws.0,
      test_back n r t o.0 f (encode_stmt a ++ (encode_stmt b ++ xs)) (omega arith),
    )
    (two_back read_stmt read_stmt (branch p t) a b (encode_stmt a) (encode_stmt b) (stmt_back n r a w.0 ps.0) (stmt_back n r b w.1 ps.1) f xs (omega arith))
stmt_back n r (loop p t a) v ws (suc f) xs h =
    let q = and_parts (valid_condition n r t) (valid_stmt n r a) v in
    let o = and_parts (valid_test n r t) (leb (test_size t) 63) q.0 in
    let m = length-append (eight p ++ encode_test t) (encode_stmt a) in
    let k = length-append (eight p) (encode_test t) in
    rw (append_assoc (eight p ++ encode_test t) (encode_stmt a) xs, append_assoc (eight p) (encode_test t) (encode_stmt a ++ xs), eight_back p (encode_test t ++ (encode_stmt a ++ xs)) ws.0)
    (two_back read_test read_stmt (loop p) t a (encode_test t) (encode_stmt a) (test_back n r t o.0) (stmt_back n r a q.1 ws.1) f xs (omega arith))
