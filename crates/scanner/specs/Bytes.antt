-- What the readers of bytes and of numbers answer. Assumes nothing: these are definitions.
use Rattle.std.specs.Prelude.{◌≡◌, ℕ, ◌+◌, ◌^◌, ◌<◌, ◌≤◌, List, length, Some, None, Option, slice_index_or}
use Rattle.program.specs.Basics.{eight}
use Rattle.encoding.specs.Standing.{Stands}

-- the byte stands at the position
pub record ByteAt (text : List ℕ) (pos b : ℕ) : Type 0 where
  pub inside : pos < length text
  pub is : slice_index_or text pos 0 ≡ b
  pub small : b < 256

-- the byte at the position, or that the text ends before it
abbrev pub ByteRead : List ℕ → ℕ → Option ℕ → Type 0
ByteRead text pos None = length text ≤ pos
ByteRead text pos (Some b) = ByteAt text pos b

-- the number stands at the position in eight bytes
pub record NumberFound (text : List ℕ) (pos n : ℕ) : Type 0 where
  pub inside : pos + 8 ≤ length text
  pub stands : Stands text pos (eight n)
  pub small : n < 2 ^ 64

-- the number at the position, or that the text ends within eight bytes of it
abbrev pub NumberRead : List ℕ → ℕ → Option ℕ → Type 0
NumberRead text pos None = length text < pos + 8
NumberRead text pos (Some n) = NumberFound text pos n
