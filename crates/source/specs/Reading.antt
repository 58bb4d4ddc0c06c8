-- What reading a source answers. Assumes nothing: these are definitions.
use Rattle.std.specs.Prelude.{◌≡◌, ℕ, ◌<◌, ◌≤◌, List, length, Ok, Err, vec_items, vec_len, IsUtf8, Result, slice_index}
use Rattle.std.specs.Str.{IsValidUpTo}
use Rattle.lexer.specs.Lexing.{lexing, character, too_large}
use Rattle.source.specs.declared.reason.Reason.{Reason}
use Rattle.source.specs.declared.reason.Reason.TheVariants.{NoMemory, NotText, Character, TooLarge, Expected, Undeclared, Twice, TooMany, Length, Range, TooDeep, Nesting, Loops, LongTest, LongProgram, Invalid}
use Rattle.limits.specs.declared.walk.Limit.{Limit}
use Rattle.limits.specs.declared.walk.Limit.TheVariants as limit
use Rattle.source.specs.declared.errors.SourceError.{SourceError}
use Rattle.source.specs.declared.whole.Source.{Source}
use Rattle.source.specs.Valid.{Encodes}

-- each of the offsets is at most the end
abbrev pub Within : ℕ → List ℕ → Type 0
Within end is = (k : ℕ) → k < length is → slice_index is k ≤ end

-- a valid program, with one place in the text for each statement, and a word for each variable and array
pub record Sourced (bs : List ℕ) (s : Source) : Type 0 where
  pub encodes : Encodes (vec_items s.program) (vec_len s.starts) (vec_len s.variables) (vec_len s.arrays)
  pub within : Within (length bs) (vec_items s.starts)

-- what a reason says of the bytes, and of the place
abbrev pub Wrong : List ℕ → ℕ → Reason → Type 0
Wrong bs i NoMemory = i ≤ length bs
Wrong bs i NotText = (IsUtf8 bs → ⊥) × IsValidUpTo bs i
Wrong bs i Character = lexing bs ≡ character i
Wrong bs i TooLarge = lexing bs ≡ too_large i
Wrong bs i (Expected what) = i ≤ length bs
Wrong bs i Undeclared = i ≤ length bs
Wrong bs i Twice = i ≤ length bs
Wrong bs i TooMany = i ≤ length bs
Wrong bs i Length = i ≤ length bs
Wrong bs i Range = i ≤ length bs
Wrong bs i TooDeep = i ≤ length bs
Wrong bs i Nesting = i ≤ length bs
Wrong bs i Loops = i ≤ length bs
Wrong bs i LongTest = i ≤ length bs
Wrong bs i LongProgram = i ≤ length bs
Wrong bs i Invalid = i ≤ length bs

-- the reason that a limit is
abbrev pub reason_of : Limit → Reason
reason_of limit.Nesting = Nesting
reason_of limit.Loops = Loops
reason_of limit.LongTest = LongTest
reason_of limit.LongProgram = LongProgram

-- what the error says holds of the bytes
abbrev pub Explains : List ℕ → SourceError → Type 0
Explains bs e = Wrong bs e.offset e.reason

-- a source, or why the bytes are none
abbrev pub Reads : List ℕ → Result Source SourceError → Type 0
Reads bs (Ok s) = Sourced bs s
Reads bs (Err e) = Explains bs e
