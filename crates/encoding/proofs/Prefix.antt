-- No encoding begins another: where two begin the same bytes, they are of the same thing and the same bytes are left. Rests on ReadBack and Hear.
use Rattle.std.proofs.Common.{◌≡◌, ℕ, ◌+◌, true, List, ◌++◌, length, sym, ap, ◌∙◌, append_assoc, arith}
use Rattle.std.specs.List.{AllByRecursion as All}
use Rattle.program.specs.Basics.{eight, flat_map}
use Rattle.program.specs.Syntax.{Expr, Test, Stmt, Program}
use Rattle.program.specs.Encoding.{encode_expr, encode_test, encode_stmt, encode_program}
use Rattle.program.specs.Validity.{valid_expr, valid_test, valid_stmt, valid_program, stmt_numbers}
use Rattle.encoding.specs.Reader.{ok, Reader, read_eight, read_arrays, read_expr, read_test, read_stmt, read_program}
use Rattle.encoding.specs.Standing.{Stands}
use Rattle.encoding.proofs.ReadBack.{Back, Word, eight_back, expr_back, test_back, stmt_back}
use Rattle.encoding.proofs.Hear.{arrays_back, program_back}

-- what one reader reads from the same bytes
read_once : {A : Type 0} (r : Reader A) (a b : A) (xs ys s t : List ℕ) → r xs ≡ ok a s → r ys ≡ ok b t → xs ≡ ys → (a ≡ b) × (s ≡ t)
read_once r a b xs ys s t p q e = let z = ap r e in (cc, cc)

back_prefix : {A : Type 0} (r : ℕ → Reader A) (a b : A) (as₁ bs s t : List ℕ) → Back r as₁ a → Back r bs b → as₁ ++ s ≡ bs ++ t → (a ≡ b) × (s ≡ t)
back_prefix r a b as₁ bs s t p q e =
    let f = length as₁ + length bs in
    read_once (r f) a b (as₁ ++ s) (bs ++ t) s t (p f s (omega arith)) (q f t (omega arith)) e

pub eight_prefix : (n m : ℕ) (s t : List ℕ) → Word n → Word m → eight n ++ s ≡ eight m ++ t → (n ≡ m) × (s ≡ t)
eight_prefix n m s t v w e = read_once read_eight n m (eight n ++ s) (eight m ++ t) s t (eight_back n s v) (eight_back m t w) e

pub expr_prefix : (n r m q : ℕ) (a b : Expr) (s t : List ℕ) → valid_expr n r a ≡ true → valid_expr m q b ≡ true → encode_expr a ++ s ≡ encode_expr b ++ t → (a ≡ b) × (s ≡ t)
expr_prefix n r m q a b s t v w e = back_prefix read_expr a b (encode_expr a) (encode_expr b) s t (expr_back n r a v) (expr_back m q b w) e

pub test_prefix : (n r m q : ℕ) (a b : Test) (s t : List ℕ) → valid_test n r a ≡ true → valid_test m q b ≡ true → encode_test a ++ s ≡ encode_test b ++ t → (a ≡ b) × (s ≡ t)
test_prefix n r m q a b s t v w e = back_prefix read_test a b (encode_test a) (encode_test b) s t (test_back n r a v) (test_back m q b w) e

pub stmt_prefix : (n r m q : ℕ) (a b : Stmt) (s t : List ℕ) → valid_stmt n r a ≡ true → valid_stmt m q b ≡ true → All Word (stmt_numbers a) → All Word (stmt_numbers b) →
    encode_stmt a ++ s ≡ encode_stmt b ++ t → (a ≡ b) × (s ≡ t)
stmt_prefix n r m q a b s t v w h k e = back_prefix read_stmt a b (encode_stmt a) (encode_stmt b) s t (stmt_back n r a v h) (stmt_back m q b w k) e

-- the arrays' lengths, with their count in front
pub arrays_prefix : (ns ms s t : List ℕ) → Word (length ns) → Word (length ms) → All Word ns → All Word ms →
    eight (length ns) ++ flat_map eight ns ++ s ≡ eight (length ms) ++ flat_map eight ms ++ t → (ns ≡ ms) × (s ≡ t)
arrays_prefix ns ms s t v w h k e =
    read_once read_arrays ns ms (eight (length ns) ++ (flat_map eight ns ++ s)) (eight (length ms) ++ (flat_map eight ms ++ t)) s t (arrays_back ns s v h) (arrays_back ms t w k)
    (sym (append_assoc (eight (length ns)) (flat_map eight ns) s) ∙ e ∙ append_assoc (eight (length ms)) (flat_map eight ms) t)

pub program_prefix : (a b : Program) (s t : List ℕ) → valid_program a ≡ true → valid_program b ≡ true → encode_program a ++ s ≡ encode_program b ++ t → (a ≡ b) × (s ≡ t)
program_prefix a b s t v w e = back_prefix read_program a b (encode_program a) (encode_program b) s t (program_back a v) (program_back b w) e

-- so one thing at most stands at a position

pub expr_one : (text : List ℕ) (pos n r m q : ℕ) (a b : Expr) → valid_expr n r a ≡ true → valid_expr m q b ≡ true → Stands text pos (encode_expr a) → Stands text pos (encode_expr b) → a ≡ b
expr_one text pos n r m q a b v w h k = (expr_prefix n r m q a b _ _ v w (sym h ∙ k)).0

pub test_one : (text : List ℕ) (pos n r m q : ℕ) (a b : Test) → valid_test n r a ≡ true → valid_test m q b ≡ true → Stands text pos (encode_test a) → Stands text pos (encode_test b) → a ≡ b
test_one text pos n r m q a b v w h k = (test_prefix n r m q a b _ _ v w (sym h ∙ k)).0

pub stmt_one : (text : List ℕ) (pos n r m q : ℕ) (a b : Stmt) → valid_stmt n r a ≡ true → valid_stmt m q b ≡ true → All Word (stmt_numbers a) → All Word (stmt_numbers b) →
    Stands text pos (encode_stmt a) → Stands text pos (encode_stmt b) → a ≡ b
stmt_one text pos n r m q a b v w x y h k = (stmt_prefix n r m q a b _ _ v w x y (sym h ∙ k)).0
