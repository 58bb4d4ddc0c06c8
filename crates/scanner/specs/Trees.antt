-- The forms of tests and statements. Assumes nothing: these are definitions.
use Rattle.std.specs.Prelude.{◌≡◌, ℕ, ◌+◌, ◌&&◌, ◌++◌, length, ◌==◌, nat_le}
use Rattle.program.specs.Basics.{eight}
use Rattle.program.specs.Syntax.{Expr, Test, Stmt}
use Rattle.program.specs.Encoding.{encode_test, encode_stmt}
use Rattle.program.specs.Validity.{valid_test, test_size, valid_condition, stmt_numbers}
use Rattle.scanner.specs.declared.scan.TestEnd.{TestEnd}
use Rattle.scanner.specs.declared.scan.StmtEnd.{StmtEnd}
use Rattle.scanner.specs.Form.{Form, plain, followed}
use Rattle.scanner.specs.Parts.{byte_form, label_form, range_form, expr_form, exprs_form}
use Rattle.scanner.specs.OnePass.{valid_from}

-- the end of a test, and how many more tests than it is made of there may be
pub record TestEnds (room stop : ℕ) (t : Test) (r : TestEnd) : Type 0 where
  pub stops : r.end ≡ stop
  pub leaves : r.room + test_size t ≡ room

-- a valid test made of at most so many
abbrev pub test_form : ℕ → ℕ → ℕ → Form Test TestEnd
test_form n r room = record { passes = λ t. valid_test n r t && nat_le (test_size t) room; bytes = encode_test; answer = λ stop t e. TestEnds room stop t e }

-- behind the first byte of an assignment: the statement's number, a variable and an expression
abbrev pub assign_form : ℕ → ℕ → ℕ → Form (ℕ × (ℕ × Expr)) ℕ
assign_form n r j = followed (label_form j) (λ p. followed (byte_form n) (λ x. expr_form n r))

-- of a store: the number, an array, the index and the value
abbrev pub store_form : ℕ → ℕ → ℕ → Form (ℕ × (ℕ × (Expr × Expr))) ℕ
store_form n r j = followed (label_form j) (λ p. followed (byte_form r) (λ s. exprs_form n r))

-- of an input: the number, a variable and what may come in
abbrev pub input_form : ℕ → ℕ → Form (ℕ × (ℕ × (ℕ × ℕ))) ℕ
input_form n j = followed (label_form j) (λ p. followed (byte_form n) (λ x. range_form))

-- of a check, a branch or a loop: the number and a test
abbrev pub head_form : ℕ → ℕ → ℕ → Form (ℕ × Test) ℕ
head_form n r j = plain (λ p. (p.0 == j) && valid_condition n r p.1) (λ p. eight p.0 ++ encode_test p.1)

-- the end of a statement, and the next statement's number
pub record StmtEnds (j stop : ℕ) (d : Stmt) (r : StmtEnd) : Type 0 where
  pub stops : r.end ≡ stop
  pub counts : r.next ≡ j + length (stmt_numbers d)

-- a statement that is valid from j, nested at most k deep and in loops at most l deep
abbrev pub stmt_form : ℕ → ℕ → ℕ → ℕ → ℕ → Form Stmt StmtEnd
stmt_form n r k l j = record { passes = valid_from n r k l j; bytes = encode_stmt; answer = λ stop d e. StmtEnds j stop d e }

-- a statement with one number, j
abbrev pub one_numbered : ℕ → ℕ → StmtEnd
one_numbered j stop = record { end = stop; next = j + 1 }
