-- What is printed of a whole program. Assumes nothing: these are definitions.
use Rattle.std.specs.Prelude.{◌≡◌, ℕ, true, List, codes, Ok, Err, string_bytes, Result, String}
use Rattle.std.specs.declared.alloc.Global.{Global}
use Rattle.program.specs.Syntax.{Program}
use Rattle.program.specs.Encoding.{encode_program}
use Rattle.program.specs.Validity.{valid_program}
use Rattle.reader.specs.Request.{Loads}
use Rattle.reader.specs.declared.load.Header.{Header}
use Rattle.printer.specs.Text.{text_program}
use Rattle.printer.specs.declared.PrintError.{PrintError}
use Rattle.printer.specs.declared.PrintError.TheVariants.{NoMemory, NoProgram}

-- the words are the text of the program that the command loads
abbrev pub LoadedText : List ℕ → Header → List ℕ → Type 0
LoadedText text h words = (l : Loads text h) → words ≡ text_program l.program

-- the bytes are this valid program
pub record Encodes (bytes : List ℕ) (p : Program) : Type 0 where
  pub valid : valid_program p ≡ true
  pub bytes_are : encode_program p ≡ bytes

-- the bytes are a valid program, and the words are its text, and that of every program that they are
pub record ProgramText (bytes words : List ℕ) : Type 0 where
  pub program : Program
  pub encoded : Encodes bytes program
  pub text : (p : Program) → Encodes bytes p → words ≡ text_program p

-- the text of the program that the bytes are; without memory nothing is said, and bytes that are refused are no valid program
abbrev pub ProgramPrinted : List ℕ → Result (String Global) PrintError → Type 0
ProgramPrinted bytes (Ok s) = ProgramText bytes (string_bytes s)
ProgramPrinted bytes (Err NoMemory) = Unit {0}
ProgramPrinted bytes (Err NoProgram) = (p : Program) → Encodes bytes p → ⊥

-- an error in words
abbrev pub error_words : PrintError → List ℕ
error_words NoMemory = codes "out of memory"
error_words NoProgram = codes "no program"
