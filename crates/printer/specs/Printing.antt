-- What the code ensures where it prints: of whatever stands next, ready to be printed, the text is that of the definitions.
-- The arguments are how long it may be and the printer before and after. Assumes nothing: these are definitions.
use Rattle.std.specs.Prelude.{◌≡◌, ℕ, ◌+◌, ◌^◌, ◌<◌, ◌==◌, ◌||◌, Bool, false, cond, List, [], ◌++◌, length, codes, slice_index, string_bytes}
use Rattle.program.specs.Basics.{eight, limit}
use Rattle.program.specs.Syntax.{Expr, Test, Stmt, assign, store, input, check, branch, loop}
use Rattle.program.specs.Encoding.{encode_expr, encode_test, encode_stmt}
use Rattle.program.specs.Validity.{valid_expr, valid_test, valid_stmt}
use Rattle.encoding.specs.Standing.{Stands}
use Rattle.printer.specs.Text.{text_expr, text_test, text_stmt, first_of, else_of, block, deeper, is_seq, is_skip}
use Rattle.printer.specs.Ready.{Ready, ExprReady, TestReady, StmtReady}
use Rattle.printer.specs.declared.write.Printer.{Printer}

-- so many bytes more are behind, `words` are added to what was printed before, and the bytes stay
pub record Prints (count : ℕ) (words : List ℕ) (old new : Printer) : Type 0 where
  pub text : new.text.now ≡ old.text.now
  pub pos : new.pos ≡ old.pos + count
  pub out : string_bytes new.out ≡ string_bytes old.out ++ words

-- so many bytes more are behind, as far as places can be told, and nothing is printed
abbrev pub Passes : ℕ → Printer → Printer → Type 0
Passes count old new = old.pos + count < 2 ^ 64 → Prints count [] old new

-- how long a statement's first byte is with the number behind it: what does nothing, and a sequence, have none
abbrev pub head_size : ℕ → ℕ
head_size kind = cond (kind == 0 || kind == 5) 1 9

-- of whatever stands next, encoded and valid so, these words are printed
abbrev pub Printed : {A : Type 0} → (A → List ℕ) → (ℕ → ℕ → A → Bool) → (A → List ℕ) → ℕ → Printer → Printer → Type 0
Printed {A} encode is_valid words left old new = (x : A) → Ready encode is_valid old.text.now old.pos left x → Prints (length (encode x)) (words x) old new

-- the expression, as an operand or not
abbrev pub ExprPrinted : ℕ → Bool → Printer → Printer → Type 0
ExprPrinted left operand old new = Printed encode_expr valid_expr (text_expr operand) left old new

-- two expressions, one behind the other, with a word between them
abbrev pub SidesPrinted : ℕ → List ℕ → Printer → Printer → Type 0
SidesPrinted left word old new =
    (a b : Expr) → ExprReady old.text.now old.pos left a → ExprReady old.text.now (old.pos + length (encode_expr a)) left b →
    Prints (length (encode_expr a) + length (encode_expr b)) (text_expr false a ++ word ++ text_expr false b) old new

-- the test
abbrev pub TestPrinted : ℕ → Printer → Printer → Type 0
TestPrinted left old new = Printed encode_test valid_test text_test left old new

-- two tests, one behind the other, in brackets with a word between them
abbrev pub TestsPrinted : ℕ → List ℕ → Printer → Printer → Type 0
TestsPrinted left word old new =
    (t u : Test) → TestReady old.text.now old.pos left t → TestReady old.text.now (old.pos + length (encode_test t)) left u →
    Prints (length (encode_test t) + length (encode_test u)) (codes "(" ++ text_test t ++ word ++ text_test u ++ codes ")") old new

-- the statement, indented by d levels
abbrev pub StmtPrinted : ℕ → ℕ → Printer → Printer → Type 0
StmtPrinted left d old new = Printed encode_stmt valid_stmt (text_stmt d) left old new

-- the statement on lines of its own
abbrev pub BlockPrinted : ℕ → ℕ → Printer → Printer → Type 0
BlockPrinted left d old new = Printed encode_stmt valid_stmt (λ s. block d (text_stmt (deeper d) s)) left old new

-- the statement as the first of two
abbrev pub FirstPrinted : ℕ → ℕ → Printer → Printer → Type 0
FirstPrinted left d old new = Printed encode_stmt valid_stmt (λ s. first_of (is_seq s) d (text_stmt (deeper d) s) (text_stmt d s)) left old new

-- the statement as the second part of a branch
abbrev pub ElsePrinted : ℕ → ℕ → Printer → Printer → Type 0
ElsePrinted left d old new = Printed encode_stmt valid_stmt (λ s. else_of (is_skip s) d (text_stmt (deeper d) s)) left old new

-- a statement of one kind, of which what comes behind its number stands next

abbrev pub AssignPrinted : ℕ → ℕ → Printer → Printer → Type 0
AssignPrinted left d old new =
    (p : ℕ) (e : Expr) → ExprReady old.text.now (old.pos + 1) left e →
    Prints (1 + length (encode_expr e)) (text_stmt d (assign p (slice_index old.text.now old.pos) e)) old new

abbrev pub StorePrinted : ℕ → ℕ → Printer → Printer → Type 0
StorePrinted left d old new =
    (p : ℕ) (a e : Expr) → ExprReady old.text.now (old.pos + 1) left a → ExprReady old.text.now (old.pos + 1 + length (encode_expr a)) left e →
    Prints (1 + length (encode_expr a) + length (encode_expr e)) (text_stmt d (store p (slice_index old.text.now old.pos) a e)) old new

-- the bounds of an input
pub record BoundsAt (text : List ℕ) (pos a b : ℕ) : Type 0 where
  pub low : Stands text pos (eight a)
  pub high : Stands text (pos + 8) (eight b)
  pub low_small : a < limit
  pub high_small : b < limit

abbrev pub InputPrinted : ℕ → Printer → Printer → Type 0
InputPrinted d old new =
    (p a b : ℕ) → BoundsAt old.text.now (old.pos + 1) a b → Prints 17 (text_stmt d (input p (slice_index old.text.now old.pos) a b)) old new

abbrev pub CheckPrinted : ℕ → ℕ → Printer → Printer → Type 0
CheckPrinted left d old new =
    (p : ℕ) (t : Test) → TestReady old.text.now old.pos left t → Prints (length (encode_test t)) (text_stmt d (check p t)) old new

abbrev pub BranchPrinted : ℕ → ℕ → Printer → Printer → Type 0
BranchPrinted left d old new =
    (p : ℕ) (t : Test) (a b : Stmt) → TestReady old.text.now old.pos left t → StmtReady old.text.now (old.pos + length (encode_test t)) left a →
    StmtReady old.text.now (old.pos + length (encode_test t) + length (encode_stmt a)) left b →
    Prints (length (encode_test t) + length (encode_stmt a) + length (encode_stmt b)) (text_stmt d (branch p t a b)) old new

abbrev pub LoopPrinted : ℕ → ℕ → Printer → Printer → Type 0
LoopPrinted left d old new =
    (p : ℕ) (t : Test) (a : Stmt) → TestReady old.text.now old.pos left t → StmtReady old.text.now (old.pos + length (encode_test t)) left a →
    Prints (length (encode_test t) + length (encode_stmt a)) (text_stmt d (loop p t a)) old new
