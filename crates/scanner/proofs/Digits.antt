-- A number in eight bytes of a text. Rests on what the library says of a number's bytes.
use Rattle.std.proofs.Common.{◌≡◌, ℕ, zero, suc, ◌+◌, ◌^◌, ◌<◌, List, [], ◌∷◌, ◌++◌, length, get_or, take, drop, sym, ap, ◌∙◌, subst, arith, w64, get_or-drop, length-drop}
use Rattle.std.proofs.lemmas.List.{length-take-le, take-append-drop}
use Rattle.std.specs.Array.{IsFirstChunk}
use Rattle.std.specs.Int.{from_be_bytes}
use Rattle.std.proofs.lemmas.Nat.{be_bytes_8}
use Rattle.program.specs.Basics.{eight}
use Rattle.encoding.proofs.Standing.{stands_from}
use Rattle.encoding.proofs.Words.{eight_is}
use Rattle.scanner.specs.Bytes.{NumberFound}

taken_small : (k : ℕ) (xs : List ℕ) → ((i : ℕ) → get_or xs i 0 < 256) → (i : ℕ) → get_or (take k xs) i 0 < 256
taken_small zero xs h i = omega arith
taken_small (suc k) [] h i = omega arith
taken_small (suc k) (x ∷ xs) h zero = h 0
taken_small (suc k) (x ∷ xs) h (suc i) = taken_small k xs (λ j. h (suc j)) i

-- the first eight bytes behind the position
pub number_read : (text rest bytes : List ℕ) (pos n : ℕ) → rest ≡ drop pos text → IsFirstChunk rest bytes 8 → ((i : ℕ) → get_or text i 0 < 256) → n < 2 ^ 64 →
    n ≡ from_be_bytes w64 bytes → NumberFound text pos n
number_read text rest bytes pos n d f small fits e =
    let long : length bytes ≡ 8 = ap length f.same ∙ length-take-le 8 rest f.enough in
    let behind : (i : ℕ) → get_or rest i 0 < 256 = λ i. subst (λ (b : ℕ). b < 256) (sym (ap (λ (xs : List ℕ). get_or xs i 0) d ∙ get_or-drop pos text i 0)) (small (pos + i)) in
    let each : (i : ℕ) → get_or bytes i 0 < 256 = λ i. subst (λ (xs : List ℕ). get_or xs i 0 < 256) (sym f.same) (taken_small 8 rest behind i) in
    let digits : eight n ≡ bytes = eight_is n ∙ be_bytes_8 bytes n long each e in
    record {
      inside = omega (arith, f.enough, ap length d, length-drop pos text);
      stands = stands_from text pos (eight n) (drop 8 rest) (sym d ∙ sym (take-append-drop 8 rest) ∙ ap (λ (xs : List ℕ). xs ++ drop 8 rest) (sym f.same ∙ sym digits));
      small = fits;
    }
