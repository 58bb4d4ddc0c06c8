-- One pass tells what the definitions of a valid statement tell together. Rests on the definitions alone.
use Rattle.std.proofs.Common.{◌≡◌, ℕ, suc, ◌+◌, ◌-◌, Bool, true, false, ◌&&◌, eqb, ltb, leb, List, [], ◌∷◌, ◌++◌, length, sym, refl, ap, ◌∙◌, add-zero, add-one, arith}
use mathlib.Core.Bool.{and_assoc, and_comm, and-true}
use Rattle.std.proofs.lemmas.Bool.Decides.{nat_tests}
use Rattle.program.specs.Basics.{larger, limit}
use Rattle.program.specs.Syntax.{Stmt, skip, assign, store, input, check, seq, branch, loop}
use Rattle.program.specs.Validity.{valid_expr, valid_condition, valid_stmt, stmt_numbers, consecutive, nesting, loop_nesting}
use Rattle.scanner.specs.OnePass.{valid_from}

zero_leb : (k : ℕ) → leb 0 k ≡ true
zero_leb k = grind (arith, nat_tests)

larger_leb : (x y k : ℕ) → leb (larger x y) k ≡ (leb x k && leb y k)
larger_leb x y k = grind (arith, nat_tests)

suc_leb : (x k : ℕ) → leb (suc x) k ≡ (ltb 0 k && leb x (k - 1))
suc_leb x k = grind (arith, nat_tests)

consecutive_two : (j : ℕ) (ps qs : List ℕ) → consecutive j (ps ++ qs) ≡ (consecutive j ps && consecutive (j + length ps) qs)
unfolding consecutive
consecutive_two j [] qs = ap (λ (i : ℕ). consecutive i qs) (sym (add-zero j))
consecutive_two j (p ∷ ps) qs =
    let e : suc j + length ps ≡ j + suc (length ps) = omega arith in
    rw (consecutive_two (suc j) ps qs, e) (sym (and_assoc (eqb p j) (consecutive (suc j) ps) (consecutive (j + suc (length ps)) qs)))

-- conjunctions in another order

swapped : (a b c d : Bool) → ((a && b) && (c && d)) ≡ ((a && c) && (b && d))
swapped false b c d = refl
swapped true false false d = refl
swapped true false true d = refl
swapped true true c d = refl

moved : (z x y : Bool) → (z && (x && y)) ≡ (x && (z && y))
moved false false y = refl
moved false true y = refl
moved true x y = refl

-- a statement with a number of its own, and nothing in it
leaf_order : (p q : Bool) (k l : ℕ) → (p && q) ≡ ((q && (p && true)) && (leb 0 k && leb 0 l))
leaf_order p q k l = rw (zero_leb k, zero_leb l, and-true p, and_comm q p) (sym (and-true (p && q)))

-- two statements: what each satisfies
two_order : (a b c d e f g h : Bool) → (((a && b) && (c && d)) && ((e && f) && (g && h))) ≡ (((a && e) && (b && f)) && ((c && g) && (d && h)))
two_order a b c d e f g h = swapped (a && b) (c && d) (e && f) (g && h) ∙ ap2 (swapped a b e f) (swapped c d g h)
  where
    ap2 : {x x₁ y y₁ : Bool} → x ≡ x₁ → y ≡ y₁ → (x && y) ≡ (x₁ && y₁)
    ap2 p q = cc

-- q, t: the number and the test; v, c, m, l: what is held
held_order : (q t v c m l : Bool) → ((q && t) && ((v && c) && (m && l))) ≡ (((t && v) && (q && c)) && (m && l))
held_order q t v c m l = rw (and_comm q t, sym (and_assoc (t && q) (v && c) (m && l)), swapped t q v c) refl

-- z, y: room for a branch or a loop, and for a loop
branch_order : (z q t v c m l : Bool) → (z && ((q && t) && ((v && c) && (m && l)))) ≡ (((t && v) && (q && c)) && ((z && m) && l))
branch_order z q t v c m l = rw (held_order q t v c m l, moved z ((t && v) && (q && c)) (m && l), and_assoc z m l) refl

loop_order : (z y q t v c m l : Bool) → ((z && y) && ((q && t) && ((v && c) && (m && l)))) ≡ (((t && v) && (q && c)) && ((z && m) && (y && l)))
loop_order z y q t v c m l = rw (held_order q t v c m l, moved (z && y) ((t && v) && (q && c)) (m && l), swapped z y m l) refl

-- what one pass tells of a statement
abbrev told : ℕ → ℕ → ℕ → ℕ → ℕ → Stmt → Bool
told n r k l j d = (valid_stmt n r d && consecutive j (stmt_numbers d)) && (leb (nesting d) k && leb (loop_nesting d) l)

two_valid : (n r k l j : ℕ) (a b : Stmt) → valid_from n r k l j a ≡ told n r k l j a → valid_from n r k l (j + length (stmt_numbers a)) b ≡ told n r k l (j + length (stmt_numbers a)) b →
    (valid_from n r k l j a && valid_from n r k l (j + length (stmt_numbers a)) b)
    ≡ (((valid_stmt n r a && valid_stmt n r b) && consecutive j (stmt_numbers a ++ stmt_numbers b)) && (leb (larger (nesting a) (nesting b)) k && leb (larger (loop_nesting a) (loop_nesting b)) l))
two_valid n r k l j a b first second =
    rw (first, second, consecutive_two j (stmt_numbers a) (stmt_numbers b), larger_leb (nesting a) (nesting b) k, larger_leb (loop_nesting a) (loop_nesting b) l)
    (two_order (valid_stmt n r a) (consecutive j (stmt_numbers a)) (leb (nesting a) k) (leb (loop_nesting a) l)
    (valid_stmt n r b) (consecutive (j + length (stmt_numbers a)) (stmt_numbers b)) (leb (nesting b) k) (leb (loop_nesting b) l))

pub valid_from_is : (n r k l j : ℕ) (d : Stmt) →
    valid_from n r k l j d ≡ ((valid_stmt n r d && consecutive j (stmt_numbers d)) && (leb (nesting d) k && leb (loop_nesting d) l))
unfolding valid_from valid_stmt stmt_numbers consecutive nesting loop_nesting
valid_from_is n r k l j skip = rw (zero_leb k, zero_leb l) refl
valid_from_is n r k l j (assign p x e) = leaf_order (eqb p j) (ltb x n && valid_expr n r e) k l
valid_from_is n r k l j (store p s a e) = leaf_order (eqb p j) (ltb s r && (valid_expr n r a && valid_expr n r e)) k l
valid_from_is n r k l j (input p x a b) = leaf_order (eqb p j) (ltb x n && (leb a b && ltb b limit)) k l
valid_from_is n r k l j (check p t) = leaf_order (eqb p j) (valid_condition n r t) k l
valid_from_is n r k l j (seq a b) = two_valid n r k l j a b (valid_from_is n r k l j a) (valid_from_is n r k l (j + length (stmt_numbers a)) b)
valid_from_is n r k l j (branch p t a b) =
    rw (two_valid n r (k - 1) l (j + 1) a b (valid_from_is n r (k - 1) l (j + 1) a) (valid_from_is n r (k - 1) l (j + 1 + length (stmt_numbers a)) b), add-one j, suc_leb (larger (nesting a) (nesting b)) k)
    (branch_order (ltb 0 k) (eqb p j) (valid_condition n r t) (valid_stmt n r a && valid_stmt n r b) (consecutive (suc j) (stmt_numbers a ++ stmt_numbers b))
    (leb (larger (nesting a) (nesting b)) (k - 1)) (leb (larger (loop_nesting a) (loop_nesting b)) l))
valid_from_is n r k l j (loop p t a) =
    rw (valid_from_is n r (k - 1) (l - 1) (j + 1) a, add-one j, suc_leb (nesting a) k, suc_leb (loop_nesting a) l)
    (loop_order (ltb 0 k) (ltb 0 l) (eqb p j) (valid_condition n r t) (valid_stmt n r a) (consecutive (suc j) (stmt_numbers a)) (leb (nesting a) (k - 1)) (leb (loop_nesting a) (l - 1)))
