-- What is printed of each kind of statement is what the definitions say.
use Rattle.std.proofs.Common.{◌≡◌, ℕ, Bool, true, false, List, [], ◌++◌, codes, decimal, sym, refl, ap, ◌∙◌, append_assoc, arith}
use Rattle.program.specs.Syntax.{Expr, Test, Stmt, skip, assign, store, input, check, seq, branch, loop}
use Rattle.encoding.proofs.Parts.{stmt_tag}
use Rattle.printer.specs.Text.{variable_word, array_word, text_expr, text_test, indent, deeper, block, is_seq, is_skip, first_of, else_of, text_stmt}

pub skip_text : (d : ℕ) (s : Stmt) → s ≡ skip → indent d ++ codes "nothing" ≡ text_stmt d s
unfolding text_stmt
skip_text d s is = sym (ap (text_stmt d) is)

pub assign_text : (d p : ℕ) (e : Expr) (x y : ℕ) → x ≡ y → indent d ++ variable_word x ++ codes " is " ++ text_expr false e ≡ text_stmt d (assign p y e)
unfolding text_stmt
assign_text d p e x y is = ap (λ (k : ℕ). text_stmt d (assign p k e)) is

pub store_text : (d p : ℕ) (a e : Expr) (x y : ℕ) → x ≡ y → indent d ++ array_word x ++ codes "[" ++ text_expr false a ++ codes "] is " ++ text_expr false e ≡ text_stmt d (store p y a e)
unfolding text_stmt
store_text d p a e x y is = ap (λ (k : ℕ). text_stmt d (store p k a e)) is

pub input_text : (d p : ℕ) (x y n a m b : ℕ) → x ≡ y → n ≡ a → m ≡ b →
    indent d ++ variable_word x ++ (codes " takes " ++ decimal n) ++ (codes " to " ++ decimal m) ≡ text_stmt d (input p y a b)
unfolding text_stmt
input_text d p x y n a m b is low high =
    sym (append_assoc (indent d ++ variable_word x ++ (codes " takes " ++ decimal n)) (codes " to ") (decimal m))
    ∙ ap (λ (w : List ℕ). w ++ codes " to " ++ decimal m) (sym (append_assoc (indent d ++ variable_word x) (codes " takes ") (decimal n)))
    ∙ ap (λ (k : ℕ). text_stmt d (input p k n m)) is ∙ ap (λ (k : ℕ). text_stmt d (input p y k m)) low ∙ ap (λ (k : ℕ). text_stmt d (input p y a k)) high

pub check_text : (d p : ℕ) (t : Test) → indent d ++ codes "check " ++ text_test t ≡ text_stmt d (check p t)
unfolding text_stmt
check_text d p t = refl

pub block_text : (d k : ℕ) (s : Stmt) → k ≡ deeper d → codes "\n" ++ text_stmt k s ++ codes "\n" ++ indent d ≡ block d (text_stmt (deeper d) s)
block_text d k s is = ap (λ (j : ℕ). block d (text_stmt j s)) is

-- the first of two statements

no_seq : (s : Stmt) → (stmt_tag s ≡ 5 → ⊥) → is_seq s ≡ false
no_seq skip h = refl
no_seq (assign p x e) h = refl
no_seq (store p r a e) h = refl
no_seq (input p x a b) h = refl
no_seq (check p t) h = refl
no_seq (seq a b) h = absurd (h refl)
no_seq (branch p t a b) h = refl
no_seq (loop p t a) h = refl

a_seq : (s : Stmt) → stmt_tag s ≡ 5 → is_seq s ≡ true
a_seq skip h = absurd (omega arith)
a_seq (assign p x e) h = absurd (omega arith)
a_seq (store p r a e) h = absurd (omega arith)
a_seq (input p x a b) h = absurd (omega arith)
a_seq (check p t) h = absurd (omega arith)
a_seq (seq a b) h = refl
a_seq (branch p t a b) h = absurd (omega arith)
a_seq (loop p t a) h = absurd (omega arith)

pub plain_text : (d : ℕ) (s : Stmt) → (stmt_tag s ≡ 5 → ⊥) → text_stmt d s ≡ first_of (is_seq s) d (text_stmt (deeper d) s) (text_stmt d s)
plain_text d s h = sym (ap (λ (b : Bool). first_of b d (text_stmt (deeper d) s) (text_stmt d s)) (no_seq s h))

pub group_text : (d : ℕ) (s : Stmt) → stmt_tag s ≡ 5 →
    indent d ++ codes "(" ++ block d (text_stmt (deeper d) s) ++ codes ")" ≡ first_of (is_seq s) d (text_stmt (deeper d) s) (text_stmt d s)
group_text d s h = sym (ap (λ (b : Bool). first_of b d (text_stmt (deeper d) s) (text_stmt d s)) (a_seq s h))

pub seq_text : (d : ℕ) (s a b : Stmt) → s ≡ seq a b → first_of (is_seq a) d (text_stmt (deeper d) a) (text_stmt d a) ++ codes ";\n" ++ text_stmt d b ≡ text_stmt d s
unfolding text_stmt
seq_text d s a b is = sym (ap (text_stmt d) is)

-- the second part of a branch

no_skip : (s : Stmt) → (stmt_tag s ≡ 0 → ⊥) → is_skip s ≡ false
no_skip skip h = absurd (h refl)
no_skip (assign p x e) h = refl
no_skip (store p r a e) h = refl
no_skip (input p x a b) h = refl
no_skip (check p t) h = refl
no_skip (seq a b) h = refl
no_skip (branch p t a b) h = refl
no_skip (loop p t a) h = refl

pub no_else_text : (d : ℕ) (s : Stmt) (lines : List ℕ) → s ≡ skip → [] ≡ else_of (is_skip s) d lines
no_else_text d s lines is = sym (ap (λ (x : Stmt). else_of (is_skip x) d lines) is)

pub else_text : (d : ℕ) (s : Stmt) (lines : List ℕ) → (stmt_tag s ≡ 0 → ⊥) → codes "else" ++ block d lines ≡ else_of (is_skip s) d lines
else_text d s lines h = sym (ap (λ (b : Bool). else_of b d lines) (no_skip s h))

pub branch_text : (d p : ℕ) (t : Test) (a b : Stmt) →
    indent d ++ codes "if " ++ text_test t ++ codes " then" ++ block d (text_stmt (deeper d) a) ++ else_of (is_skip b) d (text_stmt (deeper d) b) ++ codes "end" ≡ text_stmt d (branch p t a b)
unfolding text_stmt
branch_text d p t a b = refl

pub loop_text : (d p : ℕ) (t : Test) (a : Stmt) →
    indent d ++ codes "while " ++ text_test t ++ codes " do" ++ block d (text_stmt (deeper d) a) ++ codes "end" ≡ text_stmt d (loop p t a)
unfolding text_stmt
loop_text d p t a = refl
