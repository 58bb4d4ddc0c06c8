-- A program that stands at a position: where its parts stand. Assumes nothing: these are definitions.
use Rattle.std.specs.Prelude.{◌≡◌, ℕ, ◌+◌, ◌*◌, List, length, slice_index_or}
use Rattle.program.specs.Basics.{eight, flat_map}
use Rattle.program.specs.Syntax.{Program}
use Rattle.program.specs.Encoding.{encode_stmt, encode_program}
use Rattle.encoding.specs.Standing.{Stands}

pub record ProgramAt (text : List ℕ) (pos : ℕ) (p : Program) : Type 0 where
  pub vars_is : slice_index_or text pos 0 ≡ p.vars
  pub count : Stands text (pos + 1) (eight (length p.arrays))
  pub arrays : Stands text (pos + 9) (flat_map eight p.arrays)
  pub body : Stands text (pos + 9 + 8 * length p.arrays) (encode_stmt p.body)
  pub long : length (encode_program p) ≡ 9 + 8 * length p.arrays + length (encode_stmt p.body)
