-- What the place where numbers stop passing a test says of the nearest thresholds. Rests on Nearest.
use Rattle.std.proofs.Common.{◌≡◌, ℕ, ◌-◌, ◌<◌, ◌≤◌, true, false, ltb, leb, List, length, min, sym, refl, ◌∙◌, inl, inr, ⊎_elim, get_or, arith}
use Rattle.std.specs.List.Sorted.{IsNonDecreasing, IsPartitionPoint}
use Rattle.std.proofs.lemmas.Bool.{cases_lt, ltb-true, ltb-false, leb-true, leb-false}
use Rattle.interval.proofs.Widening.{threshold_above_le, threshold_above_ge, threshold_below_le}
use Rattle.interval.specs.Interval.{top, threshold_above, threshold_below}
use Rattle.thresholds.proofs.Nearest.{above_is, below_is}
use Rattle.thresholds.specs.Nearest.{IsAbove, IsBelow}

-- past the largest number there is no other
above_past : (n : ℕ) (xs : List ℕ) → top ≤ n → top ≡ threshold_above n xs
above_past n xs h = above_is n xs top (omega arith) (λ k l m. omega arith) (inl refl)

-- the threshold above is a number
is_above : (n : ℕ) (xs : List ℕ) (r : ℕ) → r ≡ threshold_above n xs → IsAbove n xs r
is_above n xs r e =
    let t = threshold_above_le n xs in
    record { is = e; small = omega arith; reaches = λ h. omega (arith, threshold_above_ge n xs h); past = λ h. e ∙ sym (above_past n xs h) }

-- the threshold below is no more than n
is_below : (n : ℕ) (xs : List ℕ) (r : ℕ) → r ≡ threshold_below n xs → IsBelow n xs r
is_below n xs r e = record { is = e; small = omega (arith, threshold_below_le n xs) }

-- the first number that is not below n, if there is one and it is not too large, is the threshold above
pub first_is_above : (n : ℕ) (xs : List ℕ) (i v r : ℕ) → IsNonDecreasing xs → IsPartitionPoint (λ y. ltb y n ≡ true) (λ y. ltb y n ≡ false) xs i →
    (i < length xs → v ≡ get_or xs i 0) → (length xs ≤ i → v ≡ top) → r ≡ min v top → IsAbove n xs r
first_is_above n xs i v r up p there none e =
    is_above n xs r (above_is n xs r (omega arith)
    (λ k l m. ⊎_elim (λ (b : k < i). absurd (omega (arith, ltb-true _ _ (p.0 k 0 (omega arith) b))))
    (λ (b : i ≤ k). let f = up i k 0 b l in let g = there (omega arith) in omega arith) (cases_lt k i))
    (⊎_elim (λ (l : i < length xs). let g = there l in let h = ltb-false _ _ (p.1 i 0 (omega arith) l) in
    ⊎_elim (λ (s : v < top). inr (i, l, omega arith, omega arith)) (λ (s : top ≤ v). inl (omega arith)) (cases_lt v top))
    (λ (l : length xs ≤ i). inl (omega (arith, none l))) (cases_lt i (length xs))))

-- the last number that is not above n, if there is one, is the threshold below
pub last_is_below : (n : ℕ) (xs : List ℕ) (i v : ℕ) → IsNonDecreasing xs → i ≤ length xs → IsPartitionPoint (λ y. leb y n ≡ true) (λ y. leb y n ≡ false) xs i →
    (0 < i → v ≡ get_or xs (i - 1) 0) → (i ≤ 0 → v ≡ 0) → IsBelow n xs v
last_is_below n xs i v up w p there none =
    is_below n xs v (below_is n xs v
    (λ k l m. ⊎_elim (λ (b : k < i). let f = up k (i - 1) 0 (omega arith) (omega arith) in let g = there (omega arith) in omega arith)
    (λ (b : i ≤ k). absurd (omega (arith, leb-false _ _ (p.1 k 0 b l)))) (cases_lt k i))
    (⊎_elim (λ (l : 0 < i). let g = there l in inr (i - 1, omega arith, leb-true _ _ (p.0 (i - 1) 0 (omega arith) (omega arith)), g))
    (λ (l : i ≤ 0). inl (none l)) (cases_lt 0 i)))
