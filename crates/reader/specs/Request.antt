-- What a text that is read asks for. Assumes nothing: these are definitions.
use Rattle.std.specs.Prelude.{◌≡◌, ℕ, ◌+◌, ◌-◌, Bool, true, ◌&&◌, List, ◌++◌, length, replicate, Some, None, Option, nat_le}
use Rattle.program.specs.Basics.{all, eight, flat_map}
use Rattle.program.specs.Syntax.{Program}
use Rattle.program.specs.Encoding.{encode_stmt}
use Rattle.program.specs.Command.{Command, load, all_alarms, at_end, encode, valid}
use Rattle.encoding.specs.Standing.{Stands}
use Rattle.reader.specs.declared.load.Header.{Header}
use Rattle.reader.specs.declared.Request.{Request}
use Rattle.reader.specs.declared.Request.TheVariants.{Load, Alarms, AtEnd}

-- the text encodes this valid command
abbrev pub EncodingOf : Command → List ℕ → Type 0
EncodingOf c text = (encode c ≡ text) × (valid c ≡ true)

-- an array may have this length
abbrev pub array_length : ℕ → Bool
array_length n = nat_le 1 n && nat_le n 65536

-- the lengths that stand at the position, filled up with 0 to sixteen
pub record LengthsAt (text : List ℕ) (pos count : ℕ) (lengths : List ℕ) : Type 0 where
  pub ns : List ℕ
  pub counted : length ns ≡ count
  pub allowed : all array_length ns ≡ true
  pub stands : Stands text pos (flat_map eight ns)
  pub padded : lengths ≡ ns ++ replicate (16 - count) 0

-- so many arrays' lengths at the position, or that there are none that may be
abbrev pub LengthsRead : List ℕ → ℕ → ℕ → Option (List ℕ) → Type 0
LengthsRead text pos count None = (ns : List ℕ) → length ns ≡ count → all array_length ns ≡ true → Stands text pos (flat_map eight ns) → ⊥
LengthsRead text pos count (Some lengths) = LengthsAt text pos count lengths

-- the text encodes this program, and the header tells its variables, its arrays and where its body stands
pub record Loads (text : List ℕ) (h : Header) : Type 0 where
  pub program : Program
  pub encoded : EncodingOf (load program) text
  pub vars : h.vars ≡ program.vars
  pub arrays : h.arrays ≡ length program.arrays
  pub lengths : h.lengths ≡ program.arrays ++ replicate (16 - length program.arrays) 0
  pub stands : Stands text h.body (encode_stmt program.body)
  pub ends : h.body + length (encode_stmt program.body) ≡ length text

-- the header of the program that the text encodes, or that it encodes none
abbrev pub HeaderRead : List ℕ → Option Header → Type 0
HeaderRead text None = (p : Program) → EncodingOf (load p) text → ⊥
HeaderRead text (Some h) = Loads text h

-- the valid command that the text encodes, or that it encodes none
abbrev pub Reads : List ℕ → Option Request → Type 0
Reads text (Some (Load h)) = Loads text h
Reads text (Some Alarms) = EncodingOf all_alarms text
Reads text (Some (AtEnd x)) = EncodingOf (at_end x) text
Reads text None = (c : Command) → EncodingOf c text → ⊥
