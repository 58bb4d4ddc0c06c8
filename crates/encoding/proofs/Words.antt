-- A number's eight bytes are those of the library. Rests on the definitions alone.
use Rattle.std.proofs.Common.{◌≡◌, ℕ, ◌/◌, ◌%◌, ◌∷◌, []}
use native.Mathlib.Nat.{div-div-eq-div-mul}
use Rattle.program.specs.Basics.{in_bytes, eight}

-- a number's bytes by quotients
pub eight_is : (n : ℕ) → eight n ≡ (n / 72057594037927936 % 256) ∷ (n / 281474976710656 % 256) ∷ (n / 1099511627776 % 256) ∷ (n / 4294967296 % 256) ∷ (n / 16777216 % 256) ∷ (n / 65536 % 256)
    ∷ (n / 256 % 256) ∷ (n % 256) ∷ []
unfolding in_bytes
eight_is n = simp div-div-eq-div-mul
