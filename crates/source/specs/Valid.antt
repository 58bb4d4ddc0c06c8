-- Bytes that encode a valid program, and its sizes. Assumes nothing: these are definitions.
use Rattle.std.specs.Prelude.{◌≡◌, ℕ, true, List, length}
use Rattle.program.specs.Syntax.{Program}
use Rattle.program.specs.Encoding.{encode_program}
use Rattle.program.specs.Validity.{valid_program, stmt_numbers}

-- the bytes are a valid program with so many statements, variables and arrays
pub record Encodes (bs : List ℕ) (statements variables arrays : ℕ) : Type 0 where
  pub program : Program
  pub encoded : encode_program program ≡ bs
  pub valid : valid_program program ≡ true
  pub statements_are : statements ≡ length (stmt_numbers program.body)
  pub variables_are : variables ≡ program.vars
  pub arrays_are : arrays ≡ length program.arrays
