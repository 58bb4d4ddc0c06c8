-- Where a byte stands in a text: its line and column. Assumes nothing: these are definitions.
use Rattle.std.specs.Prelude.{◌≡◌, ℕ, ◌+◌, ◌-◌, ◌<◌, ◌≤◌, List, length, take, count_by, ◌≢◌, nat_eq, slice_index}
use Rattle.place.specs.declared.Place.{Place}

-- how many line ends (LF) there are
abbrev pub newlines : List ℕ → ℕ
newlines bs = count_by (λ b. nat_eq b 10) bs

-- the line of byte i, from start to end, has no line end inside, and one on each side where the text goes on
pub record Line (bs : List ℕ) (i start end : ℕ) : Type 0 where
  pub before : start ≤ i
  pub after : i ≤ end
  pub within : end ≤ length bs
  pub inside : (k : ℕ) → start ≤ k → k < end → slice_index bs k ≢ 10
  pub opened : 0 < start → slice_index bs (start - 1) ≡ 10
  pub closed : end < length bs → slice_index bs end ≡ 10

-- lines and columns count from 1, columns in bytes
pub record StandsAt (bs : List ℕ) (i : ℕ) (p : Place) : Type 0 where
  pub line : p.line ≡ 1 + newlines (take i bs)
  pub column : p.column + p.line_start ≡ 1 + i
  pub whole : Line bs i p.line_start p.line_end
