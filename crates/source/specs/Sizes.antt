-- The sizes of the program that a command loads. Assumes nothing: these are definitions.
use Rattle.std.specs.Prelude.{◌≡◌, ℕ, List, length}
use Rattle.program.specs.Validity.{stmt_numbers}
use Rattle.reader.specs.declared.load.Header.{Header}
use Rattle.reader.specs.Request.{Loads}
use Rattle.source.specs.declared.sizes.Sizes.{Sizes}

-- a command that loads a valid program with so many statements, variables and arrays
pub record HasSizes (text : List ℕ) (sizes : Sizes) : Type 0 where
  pub header : Header
  pub loads : Loads text header
  pub statements_are : sizes.statements ≡ length (stmt_numbers loads.program.body)
  pub variables_are : sizes.vars ≡ header.vars
  pub arrays_are : sizes.arrays ≡ header.arrays
