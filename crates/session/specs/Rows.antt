-- Rows, and the bytes that they are shown in. Assumes nothing: these are definitions.
use Rattle.std.specs.Prelude.{◌≡◌, ℕ, ◌^◌, ◌<◌, ◌⊎◌, List, [], ◌∷◌, ◌++◌}
use Rattle.program.specs.Basics.{eight, map}
use Rattle.session.specs.declared.rows.Row.{Row}
use Rattle.session.specs.declared.rows.Row.TheVariants.{Alarm, Bounds}

-- a row as bytes
abbrev pub row_bytes : Row → List ℕ
row_bytes (Alarm stmt kind) = eight stmt ++ kind ∷ []
row_bytes (Bounds lo hi) = eight lo ++ eight hi

-- rows as bytes
abbrev pub rows_bytes : List Row → List (List ℕ)
rows_bytes rs = map row_bytes rs

-- its numbers fit eight bytes
abbrev pub Words : Row → Type 0
Words (Alarm stmt kind) = stmt < 2 ^ 64
Words (Bounds lo hi) = (lo < 2 ^ 64) × (hi < 2 ^ 64)

-- the row is one of these
abbrev pub Has : Row → List Row → Type 0
Has r [] = ⊥
Has r (s ∷ ss) = (r ≡ s) ⊎ Has r ss
