-- What stands at a position by its first byte, with its thresholds, where one way of the code serves several kinds. Rests on the parts of encodings.
use Rattle.std.proofs.Common.{◌≡◌, ℕ, ◌+◌, ◌<◌, ◌≤◌, List, ◌++◌, length, get_or, sym, ap, ◌∙◌, ⊎_elim, arith}
use Rattle.std.proofs.lemmas.Bool.{cases_lt}
use Rattle.program.specs.Basics.{eight}
use Rattle.program.specs.Syntax.{Expr, num, var, bin, element, Test, less, equal, not_test, and_test, or_test, Stmt, skip, assign, store, input, check, seq, branch, loop}
use Rattle.program.specs.Encoding.{encode_expr, encode_test}
use Rattle.analysis.specs.Thresholds.{expr_thresholds, test_thresholds}
use Rattle.encoding.specs.Standing.{Stands, word_at}
use Rattle.encoding.proofs.Standing.{eight_stands}
use Rattle.thresholds.specs.Collecting.{Low}
use Rattle.encoding.proofs.Parts.{expr_tag, test_tag, stmt_tag, less_at, equal_at, and_at, or_at}

-- the number that is read where one stands
pub number_read : (text : List ℕ) (pos n p r : ℕ) → Stands text pos (eight n) → Low n → p ≡ pos → pos + 8 ≤ length text → (p + 8 ≤ length text → r ≡ word_at text p) → n ≡ r
number_read text pos n p r s l e i read =
    eight_stands text pos n s l ∙ ap (λ (q : ℕ). word_at text q) (sym e) ∙ sym (read (omega arith))

-- a comparison of two expressions
pub record Compares (text : List ℕ) (pos : ℕ) (x : Test) : Type 0 where
  pub a : Expr
  pub b : Expr
  pub is : test_thresholds x ≡ expr_thresholds a ++ expr_thresholds b
  pub left : Stands text (pos + 1) (encode_expr a)
  pub right : Stands text (pos + 1 + length (encode_expr a)) (encode_expr b)
  pub long : length (encode_test x) ≡ 1 + length (encode_expr a) + length (encode_expr b)

pub compares_at : (text : List ℕ) (pos : ℕ) (x : Test) → Stands text pos (encode_test x) → get_or text pos 0 < 2 → Compares text pos x
unfolding test_thresholds
compares_at text pos x s e =
    ⊎_elim (λ k. let h = less_at text pos x s (omega arith) in record { a = h.a; b = h.b; is = ap test_thresholds h.is; left = h.left; right = h.right; long = h.long })
    (λ k. let h = equal_at text pos x s (omega arith) in record { a = h.a; b = h.b; is = ap test_thresholds h.is; left = h.left; right = h.right; long = h.long })
    (cases_lt (get_or text pos 0) 1)

-- a test of two tests
pub record Connects (text : List ℕ) (pos : ℕ) (x : Test) : Type 0 where
  pub t : Test
  pub u : Test
  pub is : test_thresholds x ≡ test_thresholds t ++ test_thresholds u
  pub first : Stands text (pos + 1) (encode_test t)
  pub second : Stands text (pos + 1 + length (encode_test t)) (encode_test u)
  pub long : length (encode_test x) ≡ 1 + length (encode_test t) + length (encode_test u)

pub connects_at : (text : List ℕ) (pos : ℕ) (x : Test) → Stands text pos (encode_test x) → 2 < get_or text pos 0 → get_or text pos 0 < 5 → Connects text pos x
unfolding test_thresholds
connects_at text pos x s e l =
    ⊎_elim (λ k. let h = and_at text pos x s (omega arith) in record { t = h.t; u = h.u; is = ap test_thresholds h.is; first = h.first; second = h.second; long = h.long })
    (λ k. let h = or_at text pos x s (omega arith) in record { t = h.t; u = h.u; is = ap test_thresholds h.is; first = h.first; second = h.second; long = h.long })
    (cases_lt (get_or text pos 0) 4)

-- there are no other first bytes
pub expr_tag_below : (e : Expr) → expr_tag e < 4
expr_tag_below (num n) = omega arith
expr_tag_below (var v) = omega arith
expr_tag_below (bin op a b) = omega arith
expr_tag_below (element r a) = omega arith

pub test_tag_below : (x : Test) → test_tag x < 5
test_tag_below (less a b) = omega arith
test_tag_below (equal a b) = omega arith
test_tag_below (not_test t) = omega arith
test_tag_below (and_test t u) = omega arith
test_tag_below (or_test t u) = omega arith

pub stmt_tag_below : (d : Stmt) → stmt_tag d < 8
stmt_tag_below skip = omega arith
stmt_tag_below (assign p x e) = omega arith
stmt_tag_below (store p r a e) = omega arith
stmt_tag_below (input p x a b) = omega arith
stmt_tag_below (check p t) = omega arith
stmt_tag_below (seq a b) = omega arith
stmt_tag_below (branch p t a b) = omega arith
stmt_tag_below (loop p t a) = omega arith
