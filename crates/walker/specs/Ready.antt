-- What stands at a position and is valid, so that the pass can go through it there. Assumes nothing: these are definitions.
use Rattle.std.specs.Prelude.{◌≡◌, ◌≢◌, ℕ, ◌<◌, ◌≤◌, true, List, length}
use Rattle.std.specs.List.{AllByRecursion}
use Rattle.program.specs.Syntax.{Stmt}
use Rattle.program.specs.Encoding.{encode_stmt}
use Rattle.program.specs.Validity.{valid_stmt, stmt_numbers}
use Rattle.encoding.specs.Standing.{Stands}

-- it can be told from its eight bytes
abbrev pub Low : ℕ → Type 0
Low p = p < 18446744073709551616

-- a valid statement of at most `left` bytes stands at pos
pub record StmtReady (text : List ℕ) (pos left : ℕ) (d : Stmt) : Type 0 where
  pub variables : ℕ
  pub arrays : ℕ
  pub stands : Stands text pos (encode_stmt d)
  pub enough : length (encode_stmt d) ≤ left
  pub valid : valid_stmt variables arrays d ≡ true
  pub low : AllByRecursion Low (stmt_numbers d)

-- the first bytes of statements without parts: assignments, stores, inputs, checks
abbrev pub HasNoParts : ℕ → Type 0
HasNoParts k = (1 ≤ k) × (k ≤ 4)

-- the first bytes of statements with a number: all but nothing and sequences
abbrev pub HasNumber : ℕ → Type 0
HasNumber k = (1 ≤ k) × (k ≢ 5)
