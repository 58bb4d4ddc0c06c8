-- The library's digits are those of the definitions.
use Rattle.std.proofs.Common.{◌≡◌, ℕ, zero, suc, ◌/◌, ◌%◌, ◌<◌, ◌==◌, ◌&&◌, Bool, true, List, [], ◌∷◌, get_or, inl, inr, refl, arith}
use Rattle.std.proofs.lemmas.Bool.{and_parts, cases_lt, eqb-true}
use Rattle.hex.specs.Hex.{encode_with, lower_digits}
use Rattle.script.specs.Hex.{hex_digit, hex}

-- both have the same digit for each of the first n numbers
abbrev same_below : ℕ → Bool
same_below zero = true
same_below (suc n) = (get_or lower_digits n 0 == hex_digit n) && same_below n

digit_is : (n k : ℕ) → same_below n ≡ true → k < n → get_or lower_digits k 0 ≡ hex_digit k
digit_is zero k h less = absurd (omega arith)
digit_is (suc n) k h less =
    let parts = and_parts (get_or lower_digits n 0 == hex_digit n) (same_below n) h in
    elim (cases_lt k n) [ inl below ↦ digit_is n k parts.1 below | inr top ↦ let e : k ≡ n = omega arith in rw e (eqb-true _ _ parts.0) ]

pub hex_is : (bytes : List ℕ) → ((i : ℕ) → get_or bytes i 0 < 256) → encode_with lower_digits bytes ≡ hex bytes
unfolding encode_with
hex_is [] h = refl
hex_is (b ∷ rest) h =
    let small : b < 256 = h zero in
    let high = digit_is 16 (b / 16) refl (omega arith) in
    let low = digit_is 16 (b % 16) refl (omega arith) in
    let more = hex_is rest (λ i. h (suc i)) in
    cc
