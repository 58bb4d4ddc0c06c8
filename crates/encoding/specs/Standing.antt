-- Bytes that stand at a position of a text. Assumes nothing: these are definitions.
use Rattle.std.specs.Prelude.{◌≡◌, ℕ, ◌+◌, ◌*◌, ◌<◌, List, ◌++◌, length, drop, slice_index}

-- the bytes stand at this position
abbrev pub Stands : List ℕ → ℕ → List ℕ → Type 0
Stands text pos bs = drop pos text ≡ bs ++ drop (pos + length bs) text

-- the number whose eight bytes, the highest first, stand at this position
abbrev pub word_at : List ℕ → ℕ → ℕ
word_at text pos =
    ((((((slice_index text pos * 256 + slice_index text (pos + 1)) * 256 + slice_index text (pos + 2)) * 256 + slice_index text (pos + 3)) * 256
    + slice_index text (pos + 4)) * 256 + slice_index text (pos + 5)) * 256 + slice_index text (pos + 6)) * 256 + slice_index text (pos + 7)

-- the eight numbers at this position are bytes
abbrev pub EightBytes : List ℕ → ℕ → Type 0
EightBytes text pos =
    (slice_index text pos < 256) × (slice_index text (pos + 1) < 256) × (slice_index text (pos + 2) < 256) × (slice_index text (pos + 3) < 256)
    × (slice_index text (pos + 4) < 256) × (slice_index text (pos + 5) < 256) × (slice_index text (pos + 6) < 256) × (slice_index text (pos + 7) < 256)
