-- What stands at a position is taken apart by its first byte: `expr-at`, `test_at`, `stmt-at` give the record of that kind, and one name for each kind. Rests on Standing.
use Rattle.std.proofs.Common.{◌≡◌, ℕ, ◌+◌, ◌<◌, ◌≤◌, List, [], ◌∷◌, ◌++◌, length, get_or, sym, refl, ◌∙◌, subst, append_assoc, arith, length-append}
use Rattle.program.specs.Basics.{eight}
use Rattle.program.specs.Syntax.{Expr, num, var, bin, element, Test, less, equal, not_test, and_test, or_test, Stmt, skip, assign, store, input, check, seq, branch, loop}
use Rattle.program.specs.Encoding.{encode_expr, encode_test, encode_stmt}
use Rattle.encoding.specs.Standing.{Stands}
use Rattle.encoding.specs.Parts.{NumberAt, VariableAt, BinaryAt, ElementAt, ExprAt, LessAt, EqualAt, NotAt, AndAt, OrAt, TestAt, SkipAt, AssignAt, StoreAt, InputAt, CheckAt, SeqAt, BranchAt, LoopAt, StmtAt}
use Rattle.encoding.proofs.Lengths.{length_eight, expr_long, test_long, stmt_long}
use Rattle.encoding.proofs.Standing.{stands_move, stands_two, stands_inside, stands_first}

-- a first byte and two parts
first_two : (text : List ℕ) (pos k : ℕ) (as₁ bs : List ℕ) → Stands text pos (k ∷ as₁ ++ bs) → Stands text (pos + 1) as₁ × Stands text (pos + 1 + length as₁) bs
first_two text pos k as₁ bs h = stands_two text (pos + 1) as₁ bs (stands_first text pos k (as₁ ++ bs) h).1

-- a first byte, a number in eight, and the rest
pub headed : (text : List ℕ) (pos k p : ℕ) (bs : List ℕ) → Stands text pos (k ∷ eight p ++ bs) → Stands text (pos + 1) (eight p) × Stands text (pos + 9) bs
headed text pos k p bs h =
    let q = first_two text pos k (eight p) bs h in
    (q.0, stands_move text (pos + 1 + length (eight p)) (pos + 9) bs (omega (arith, length_eight p)) q.1)

-- the number of a kind
abbrev pub expr_tag : Expr → ℕ
expr_tag (num n) = 0
expr_tag (var v) = 1
expr_tag (bin op a b) = 2
expr_tag (element r a) = 3

pub expr_first : (text : List ℕ) (pos : ℕ) (x : Expr) → Stands text pos (encode_expr x) → get_or text pos 0 ≡ expr_tag x
unfolding encode_expr
expr_first text pos (num n) h = (stands_first text pos 0 (eight n) h).0
expr_first text pos (var v) h = (stands_first text pos 1 (v ∷ []) h).0
expr_first text pos (bin op a b) h = (stands_first text pos 2 (op ∷ encode_expr a ++ encode_expr b) h).0
expr_first text pos (element r a) h = (stands_first text pos 3 (r ∷ encode_expr a) h).0

expr_tag_below : (x : Expr) → expr_tag x < 4
expr_tag_below (num n) = omega arith
expr_tag_below (var v) = omega arith
expr_tag_below (bin op a b) = omega arith
expr_tag_below (element r a) = omega arith

-- it lies within the text, and its first byte is below 4
pub expr_within : (text : List ℕ) (pos : ℕ) (x : Expr) → Stands text pos (encode_expr x) → pos + length (encode_expr x) ≤ length text
expr_within text pos x h = stands_inside text pos (encode_expr x) (omega (arith, expr_long x)) h

pub expr_below : (text : List ℕ) (pos : ℕ) (x : Expr) → Stands text pos (encode_expr x) → get_or text pos 0 < 4
expr_below text pos x h = omega (arith, expr_first text pos x h, expr_tag_below x)

expr_is : (text : List ℕ) (pos : ℕ) (x : Expr) → Stands text pos (encode_expr x) → ExprAt (expr_tag x) text pos x
unfolding encode_expr
expr_is text pos (num n) h = record { n = n; is = refl; word = (stands_first text pos 0 (eight n) h).1; long = omega (arith, length_eight n) }
expr_is text pos (var v) h = record { v = v; is = refl; v_is = (stands_first text (pos + 1) v [] (stands_first text pos 1 (v ∷ []) h).1).0; long = refl }
expr_is text pos (bin op a b) h =
    let k = (stands_first text pos 2 (op ∷ encode_expr a ++ encode_expr b) h).1 in
    let q = stands_first text (pos + 1) op (encode_expr a ++ encode_expr b) k in
    let two = stands_two text (pos + 2) (encode_expr a) (encode_expr b) (stands_move text (pos + 1 + 1) (pos + 2) (encode_expr a ++ encode_expr b) (omega arith) q.1) in
    record { op = op; a = a; b = b; is = refl; op_is = q.0; left = two.0; right = two.1; long = omega (arith, length-append (encode_expr a) (encode_expr b)) }
expr_is text pos (element r a) h =
    let q = stands_first text (pos + 1) r (encode_expr a) (stands_first text pos 3 (r ∷ encode_expr a) h).1 in
    record { r = r; a = a; is = refl; r_is = q.0; index = stands_move text (pos + 1 + 1) (pos + 2) (encode_expr a) (omega arith) q.1; long = omega arith }

pub expr_at : (text : List ℕ) (pos : ℕ) (x : Expr) (k : ℕ) → Stands text pos (encode_expr x) → get_or text pos 0 ≡ k → ExprAt k text pos x
expr_at text pos x k h e = subst (λ (j : ℕ). ExprAt j text pos x) (sym (expr_first text pos x h) ∙ e) (expr_is text pos x h)

pub number_at : (text : List ℕ) (pos : ℕ) (x : Expr) → Stands text pos (encode_expr x) → get_or text pos 0 ≡ 0 → NumberAt text pos x
number_at text pos x h e = expr_at text pos x 0 h e

pub variable_at : (text : List ℕ) (pos : ℕ) (x : Expr) → Stands text pos (encode_expr x) → get_or text pos 0 ≡ 1 → VariableAt text pos x
variable_at text pos x h e = expr_at text pos x 1 h e

pub binary_at : (text : List ℕ) (pos : ℕ) (x : Expr) → Stands text pos (encode_expr x) → get_or text pos 0 ≡ 2 → BinaryAt text pos x
binary_at text pos x h e = expr_at text pos x 2 h e

pub element_at : (text : List ℕ) (pos : ℕ) (x : Expr) → Stands text pos (encode_expr x) → get_or text pos 0 ≡ 3 → ElementAt text pos x
element_at text pos x h e = expr_at text pos x 3 h e

abbrev pub test_tag : Test → ℕ
test_tag (less a b) = 0
test_tag (equal a b) = 1
test_tag (not_test t) = 2
test_tag (and_test t u) = 3
test_tag (or_test t u) = 4

pub test_first : (text : List ℕ) (pos : ℕ) (x : Test) → Stands text pos (encode_test x) → get_or text pos 0 ≡ test_tag x
unfolding encode_test
test_first text pos (less a b) h = (stands_first text pos 0 (encode_expr a ++ encode_expr b) h).0
test_first text pos (equal a b) h = (stands_first text pos 1 (encode_expr a ++ encode_expr b) h).0
test_first text pos (not_test t) h = (stands_first text pos 2 (encode_test t) h).0
test_first text pos (and_test t u) h = (stands_first text pos 3 (encode_test t ++ encode_test u) h).0
test_first text pos (or_test t u) h = (stands_first text pos 4 (encode_test t ++ encode_test u) h).0

test_tag_below : (x : Test) → test_tag x < 5
test_tag_below (less a b) = omega arith
test_tag_below (equal a b) = omega arith
test_tag_below (not_test t) = omega arith
test_tag_below (and_test t u) = omega arith
test_tag_below (or_test t u) = omega arith

-- it lies within the text, and its first byte is below 5
pub test_within : (text : List ℕ) (pos : ℕ) (x : Test) → Stands text pos (encode_test x) → pos + length (encode_test x) ≤ length text
test_within text pos x h = stands_inside text pos (encode_test x) (omega (arith, test_long x)) h

pub test_below : (text : List ℕ) (pos : ℕ) (x : Test) → Stands text pos (encode_test x) → get_or text pos 0 < 5
test_below text pos x h = omega (arith, test_first text pos x h, test_tag_below x)

test_is : (text : List ℕ) (pos : ℕ) (x : Test) → Stands text pos (encode_test x) → TestAt (test_tag x) text pos x
unfolding encode_test
test_is text pos (less a b) h =
    let q = first_two text pos 0 (encode_expr a) (encode_expr b) h in
    record { a = a; b = b; is = refl; left = q.0; right = q.1; long = omega (arith, length-append (encode_expr a) (encode_expr b)) }
test_is text pos (equal a b) h =
    let q = first_two text pos 1 (encode_expr a) (encode_expr b) h in
    record { a = a; b = b; is = refl; left = q.0; right = q.1; long = omega (arith, length-append (encode_expr a) (encode_expr b)) }
test_is text pos (not_test t) h = record { t = t; is = refl; inner = (stands_first text pos 2 (encode_test t) h).1; long = omega arith }
test_is text pos (and_test t u) h =
    let q = first_two text pos 3 (encode_test t) (encode_test u) h in
    record { t = t; u = u; is = refl; first = q.0; second = q.1; long = omega (arith, length-append (encode_test t) (encode_test u)) }
test_is text pos (or_test t u) h =
    let q = first_two text pos 4 (encode_test t) (encode_test u) h in
    record { t = t; u = u; is = refl; first = q.0; second = q.1; long = omega (arith, length-append (encode_test t) (encode_test u)) }

pub test_at : (text : List ℕ) (pos : ℕ) (x : Test) (k : ℕ) → Stands text pos (encode_test x) → get_or text pos 0 ≡ k → TestAt k text pos x
test_at text pos x k h e = subst (λ (j : ℕ). TestAt j text pos x) (sym (test_first text pos x h) ∙ e) (test_is text pos x h)

pub less_at : (text : List ℕ) (pos : ℕ) (x : Test) → Stands text pos (encode_test x) → get_or text pos 0 ≡ 0 → LessAt text pos x
less_at text pos x h e = test_at text pos x 0 h e

pub equal_at : (text : List ℕ) (pos : ℕ) (x : Test) → Stands text pos (encode_test x) → get_or text pos 0 ≡ 1 → EqualAt text pos x
equal_at text pos x h e = test_at text pos x 1 h e

pub not_at : (text : List ℕ) (pos : ℕ) (x : Test) → Stands text pos (encode_test x) → get_or text pos 0 ≡ 2 → NotAt text pos x
not_at text pos x h e = test_at text pos x 2 h e

pub and_at : (text : List ℕ) (pos : ℕ) (x : Test) → Stands text pos (encode_test x) → get_or text pos 0 ≡ 3 → AndAt text pos x
and_at text pos x h e = test_at text pos x 3 h e

pub or_at : (text : List ℕ) (pos : ℕ) (x : Test) → Stands text pos (encode_test x) → get_or text pos 0 ≡ 4 → OrAt text pos x
or_at text pos x h e = test_at text pos x 4 h e

abbrev pub stmt_tag : Stmt → ℕ
stmt_tag skip = 0
stmt_tag (assign p v e) = 1
stmt_tag (store p r a e) = 2
stmt_tag (input p v a b) = 3
stmt_tag (check p t) = 4
stmt_tag (seq a b) = 5
stmt_tag (branch p t a b) = 6
stmt_tag (loop p t a) = 7

pub stmt_first : (text : List ℕ) (pos : ℕ) (x : Stmt) → Stands text pos (encode_stmt x) → get_or text pos 0 ≡ stmt_tag x
unfolding encode_stmt
stmt_first text pos skip h = (stands_first text pos 0 [] h).0
stmt_first text pos (assign p v e) h = (stands_first text pos 1 (eight p ++ v ∷ encode_expr e) h).0
stmt_first text pos (store p r a e) h = (stands_first text pos 2 (eight p ++ r ∷ encode_expr a ++ encode_expr e) h).0
stmt_first text pos (input p v a b) h = (stands_first text pos 3 (eight p ++ v ∷ eight a ++ eight b) h).0
stmt_first text pos (check p t) h = (stands_first text pos 4 (eight p ++ encode_test t) h).0
stmt_first text pos (seq a b) h = (stands_first text pos 5 (encode_stmt a ++ encode_stmt b) h).0
stmt_first text pos (branch p t a b) h = (stands_first text pos 6 (eight p ++ encode_test t ++ encode_stmt a ++ encode_stmt b) h).0
stmt_first text pos (loop p t a) h = (stands_first text pos 7 (eight p ++ encode_test t ++ encode_stmt a) h).0

-- a first byte, a number in eight, a byte, and the rest
headed_byte : (text : List ℕ) (pos k p b : ℕ) (bs : List ℕ) → Stands text pos (k ∷ eight p ++ b ∷ bs) →
    Stands text (pos + 1) (eight p) × (get_or text (pos + 9) 0 ≡ b) × Stands text (pos + 10) bs
headed_byte text pos k p b bs h =
    let q = headed text pos k p (b ∷ bs) h in
    let f = stands_first text (pos + 9) b bs q.1 in
    (q.0, f.0, stands_move text (pos + 9 + 1) (pos + 10) bs (omega arith) f.1)

stmt_tag_below : (x : Stmt) → stmt_tag x < 8
stmt_tag_below skip = omega arith
stmt_tag_below (assign p v e) = omega arith
stmt_tag_below (store p r a e) = omega arith
stmt_tag_below (input p v a b) = omega arith
stmt_tag_below (check p t) = omega arith
stmt_tag_below (seq a b) = omega arith
stmt_tag_below (branch p t a b) = omega arith
stmt_tag_below (loop p t a) = omega arith

-- it lies within the text, and its first byte is below 8
pub stmt_within : (text : List ℕ) (pos : ℕ) (x : Stmt) → Stands text pos (encode_stmt x) → pos + length (encode_stmt x) ≤ length text
stmt_within text pos x h = stands_inside text pos (encode_stmt x) (omega (arith, stmt_long x)) h

pub stmt_below : (text : List ℕ) (pos : ℕ) (x : Stmt) → Stands text pos (encode_stmt x) → get_or text pos 0 < 8
stmt_below text pos x h = omega (arith, stmt_first text pos x h, stmt_tag_below x)

stmt_is : (text : List ℕ) (pos : ℕ) (x : Stmt) → Stands text pos (encode_stmt x) → StmtAt (stmt_tag x) text pos x
unfolding encode_stmt
stmt_is text pos skip h = record { is = refl; long = refl }
stmt_is text pos (assign p v e) h =
    let q = headed_byte text pos 1 p v (encode_expr e) h in
    record { p = p; v = v; e = e; is = refl; number = q.0; v_is = q.1; value = q.2; long = omega (arith, length_eight p, length-append (eight p) (v ∷ encode_expr e)) }
stmt_is text pos (store p r a e) h =
    let q = headed_byte text pos 2 p r (encode_expr a ++ encode_expr e) (rw (sym (append_assoc (eight p) (r ∷ encode_expr a) (encode_expr e))) h) in
    let two = stands_two text (pos + 10) (encode_expr a) (encode_expr e) q.2 in
    record {
      p = p;
      r = r;
      a = a;
      e = e;
      is = refl;
      number = q.0;
      r_is = q.1;
      index = two.0;
      value = two.1;
      long = omega (arith, length_eight p, length-append (eight p) (r ∷ encode_expr a), length-append (eight p ++ r ∷ encode_expr a) (encode_expr e));
    }
stmt_is text pos (input p v a b) h =
    let q = headed_byte text pos 3 p v (eight a ++ eight b) (rw (sym (append_assoc (eight p) (v ∷ eight a) (eight b))) h) in
    let two = stands_two text (pos + 10) (eight a) (eight b) q.2 in
    record {
      p = p;
      v = v;
      a = a;
      b = b;
      is = refl;
      number = q.0;
      v_is = q.1;
      low = two.0;
      high = stands_move text (pos + 10 + length (eight a)) (pos + 18) (eight b) (omega (arith, length_eight a)) two.1;
      long = omega (arith, length_eight p, length_eight a, length_eight b, length-append (eight p) (v ∷ eight a), length-append (eight p ++ v ∷ eight a) (eight b));
    }
stmt_is text pos (check p t) h =
    let q = headed text pos 4 p (encode_test t) h in
    record { p = p; t = t; is = refl; number = q.0; condition = q.1; long = omega (arith, length_eight p, length-append (eight p) (encode_test t)) }
stmt_is text pos (seq a b) h =
    let q = first_two text pos 5 (encode_stmt a) (encode_stmt b) h in
    record { a = a; b = b; is = refl; first = q.0; second = q.1; long = omega (arith, length-append (encode_stmt a) (encode_stmt b)) }
stmt_is text pos (branch p t a b) h =
    let two = stands_two text pos (6 ∷ eight p ++ encode_test t ++ encode_stmt a) (encode_stmt b) h in
    let one = stands_two text pos (6 ∷ eight p ++ encode_test t) (encode_stmt a) two.0 in
    let q = headed text pos 6 p (encode_test t) one.0 in
    let l = length-append (eight p) (encode_test t) in let m = length-append (eight p ++ encode_test t) (encode_stmt a) in
    record {
      p = p;
      t = t;
      a = a;
      b = b;
      is = refl;
      number = q.0;
      condition = q.1;
      first = stands_move text (pos + length (6 ∷ eight p ++ encode_test t)) (pos + 9 + length (encode_test t)) (encode_stmt a) (omega (arith, length_eight p)) one.1;
      second = stands_move text (pos + length (6 ∷ eight p ++ encode_test t ++ encode_stmt a)) (pos + 9 + length (encode_test t) + length (encode_stmt a)) (encode_stmt b) (omega (arith, length_eight p)) two.1;
      long = omega (arith, length_eight p, length-append (eight p ++ encode_test t ++ encode_stmt a) (encode_stmt b));
    }
stmt_is text pos (loop p t a) h =
    let one = stands_two text pos (7 ∷ eight p ++ encode_test t) (encode_stmt a) h in
    let q = headed text pos 7 p (encode_test t) one.0 in
    let l = length-append (eight p) (encode_test t) in
    record {
      p = p;
      t = t;
      a = a;
      is = refl;
      number = q.0;
      condition = q.1;
      body = stands_move text (pos + length (7 ∷ eight p ++ encode_test t)) (pos + 9 + length (encode_test t)) (encode_stmt a) (omega (arith, length_eight p)) one.1;
      long = omega (arith, length_eight p, length-append (eight p ++ encode_test t) (encode_stmt a));
    }

pub stmt_at : (text : List ℕ) (pos : ℕ) (x : Stmt) (k : ℕ) → Stands text pos (encode_stmt x) → get_or text pos 0 ≡ k → StmtAt k text pos x
stmt_at text pos x k h e = subst (λ (j : ℕ). StmtAt j text pos x) (sym (stmt_first text pos x h) ∙ e) (stmt_is text pos x h)

pub skip_at : (text : List ℕ) (pos : ℕ) (x : Stmt) → Stands text pos (encode_stmt x) → get_or text pos 0 ≡ 0 → SkipAt text pos x
skip_at text pos x h e = stmt_at text pos x 0 h e

pub assign_at : (text : List ℕ) (pos : ℕ) (x : Stmt) → Stands text pos (encode_stmt x) → get_or text pos 0 ≡ 1 → AssignAt text pos x
assign_at text pos x h e = stmt_at text pos x 1 h e

pub store_at : (text : List ℕ) (pos : ℕ) (x : Stmt) → Stands text pos (encode_stmt x) → get_or text pos 0 ≡ 2 → StoreAt text pos x
store_at text pos x h e = stmt_at text pos x 2 h e

pub input_at : (text : List ℕ) (pos : ℕ) (x : Stmt) → Stands text pos (encode_stmt x) → get_or text pos 0 ≡ 3 → InputAt text pos x
input_at text pos x h e = stmt_at text pos x 3 h e

pub check_at : (text : List ℕ) (pos : ℕ) (x : Stmt) → Stands text pos (encode_stmt x) → get_or text pos 0 ≡ 4 → CheckAt text pos x
check_at text pos x h e = stmt_at text pos x 4 h e

pub seq_at : (text : List ℕ) (pos : ℕ) (x : Stmt) → Stands text pos (encode_stmt x) → get_or text pos 0 ≡ 5 → SeqAt text pos x
seq_at text pos x h e = stmt_at text pos x 5 h e

pub branch_at : (text : List ℕ) (pos : ℕ) (x : Stmt) → Stands text pos (encode_stmt x) → get_or text pos 0 ≡ 6 → BranchAt text pos x
branch_at text pos x h e = stmt_at text pos x 6 h e

pub loop_at : (text : List ℕ) (pos : ℕ) (x : Stmt) → Stands text pos (encode_stmt x) → get_or text pos 0 ≡ 7 → LoopAt text pos x
loop_at text pos x h e = stmt_at text pos x 7 h e
