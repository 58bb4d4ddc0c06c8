-- What a test of bytes is. Assumes nothing: these are definitions.
use Rattle.std.specs.Prelude.{◌≡◌, ℕ, Bool}

-- whatever it answers of a byte is what p says
abbrev pub IsTest : (ℕ → Bool → Type 0) → (ℕ → Bool) → Type 0
IsTest gives p = (b : ℕ) (r : Bool) → gives b r → r ≡ p b
