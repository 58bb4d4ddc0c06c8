-- Offsets within a text. Rests on the definitions alone.
use Rattle.std.proofs.Common.{ℕ, zero, suc, ◌<◌, ◌≤◌, List, [], ◌∷◌, length, get_or, arith}
use Rattle.lexer.specs.Tokens.{Ascending}

ascending_low : (low high : ℕ) (is : List ℕ) → Ascending low high is → low ≤ high
ascending_low low high [] a = a
ascending_low low high (i ∷ is) a = let h = ascending_low (suc i) high is a.1 in omega (arith, a.0)

-- the starts of tokens
pub ascending_within : (low high : ℕ) (is : List ℕ) → Ascending low high is → (k : ℕ) → k < length is → get_or is k 0 ≤ high
ascending_within low high [] a k h = absurd (omega arith)
ascending_within low high (i ∷ is) a zero h = let l = ascending_low (suc i) high is a.1 in omega arith
ascending_within low high (i ∷ is) a (suc k) h = ascending_within (suc i) high is a.1 k (omega arith)
