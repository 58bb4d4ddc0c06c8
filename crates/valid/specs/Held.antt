-- The program that a valid program's bytes stand for. Assumes nothing: these are definitions.
use Rattle.std.specs.Prelude.{◌≡◌, ℕ, List, Some, None, vec_items, Option}
use Rattle.program.specs.Syntax.{Program}
use Rattle.program.specs.Command.{load}
use Rattle.reader.specs.Request.{EncodingOf}
use Rattle.valid.specs.Loaded.{program_of}
use Rattle.valid.specs.declared.held.ValidProgram.{ValidProgram}

-- the program that is held
abbrev pub held_program : ValidProgram → Program
held_program v = program_of (vec_items v.bytes)

-- it holds the program that the text loads; none if the text loads no valid program
abbrev pub Taken : List ℕ → Option ValidProgram → Type 0
Taken text (Some v) = (vec_items v.bytes ≡ text) × EncodingOf (load (held_program v)) text
Taken text None = (p : Program) → EncodingOf (load p) text → ⊥
