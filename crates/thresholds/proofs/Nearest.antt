-- The nearest threshold above and below a number depends only on which numbers a list has, and in an
-- ascending list it stands where the numbers pass n.
use Rattle.std.proofs.Common.{◌≡◌, ℕ, zero, suc, ◌<◌, ◌≤◌, Bool, true, false, cond, ltb, leb, ◌⊎◌, List, [], ◌∷◌, length, get_or, sym, refl, subst, inl, inr, ⊎_elim, le_antisymm, arith}
use Rattle.std.specs.List.{ContainsAt as Has}
use Rattle.std.specs.List.Sorted.{IsPermutation}
use Rattle.std.proofs.ByRecursion.{has_get_or, has_shuffled}
use Rattle.std.proofs.lemmas.List.Sorted.{IsPermutation-sym}
use Rattle.std.proofs.lemmas.Bool.{leb-true}
use Rattle.std.proofs.lemmas.Bool.Decides.{nat_tests}
use Rattle.interval.proofs.Widening.{threshold_above_le}
use Rattle.interval.specs.Interval.{Interval, top, threshold_above, threshold_below, widen_interval}

-- no more than any of the list that is n or more
pub above_least : (n : ℕ) (ms : List ℕ) (k : ℕ) → k < length ms → n ≤ get_or ms k 0 → threshold_above n ms ≤ get_or ms k 0
unfolding threshold_above
above_least n [] k h l = absurd (omega arith)
above_least n (m ∷ ms) zero h l = let e = threshold_above_le n ms in grind (arith, nat_tests)
above_least n (m ∷ ms) (suc k) h l = let e = above_least n ms k (omega arith) l in grind (arith, nat_tests)

-- where the threshold comes from: the largest number, or one of the list that is n or more
abbrev pub AboveFrom : ℕ → List ℕ → ℕ → Type 0
AboveFrom n ms r = (r ≡ top) ⊎ ((k : ℕ) × (k < length ms) × (n ≤ get_or ms k 0) × (r ≡ get_or ms k 0))

-- one more in front
above_later : (n m : ℕ) (ms : List ℕ) (r : ℕ) → AboveFrom n ms r → AboveFrom n (m ∷ ms) r
above_later n m ms r h = ⊎_elim (λ e. inl e) (λ e. inr (suc e.0, omega arith, e.2, e.3)) h

-- the step of the recursion: m is taken if it passes and is smaller
above_step : (n m : ℕ) (ms : List ℕ) (r : ℕ) (p q : Bool) → (p ≡ true → n ≤ m) → AboveFrom n ms r → AboveFrom n (m ∷ ms) (cond p (cond q m r) r)
above_step n m ms r false q l h = above_later n m ms r h
above_step n m ms r true false l h = above_later n m ms r h
above_step n m ms r true true l h = inr (0, omega arith, l refl, refl)

above_from : (n : ℕ) (ms : List ℕ) → AboveFrom n ms (threshold_above n ms)
unfolding threshold_above
above_from n [] = inl refl
above_from n (m ∷ ms) = above_step n m ms (threshold_above n ms) (leb n m) (ltb m (threshold_above n ms)) (leb-true n m) (above_from n ms)

-- what the threshold above is: no more than the largest number and than those of n and more, and one of them
pub above_is : (n : ℕ) (ms : List ℕ) (r : ℕ) → r ≤ top → ((k : ℕ) → k < length ms → n ≤ get_or ms k 0 → r ≤ get_or ms k 0) → AboveFrom n ms r → r ≡ threshold_above n ms
above_is n ms r t least from =
    le_antisymm
    (⊎_elim (λ e. omega (arith, e)) (λ e. omega (arith, least e.0 e.1 e.2, e.3)) (above_from n ms))
    (⊎_elim (λ e. omega (arith, threshold_above_le n ms, e)) (λ e. omega (arith, above_least n ms e.0 e.1 e.2, e.3)) from)

-- all numbers of the first list are in the second
abbrev pub Included : List ℕ → List ℕ → Type 0
Included xs ys = (x : ℕ) → Has xs x → Has ys x

-- of more numbers the least is no greater
above_included : (n : ℕ) (xs ys : List ℕ) → Included xs ys → threshold_above n ys ≤ threshold_above n xs
above_included n xs ys h =
    ⊎_elim (λ e. subst (λ (r : ℕ). threshold_above n ys ≤ r) (sym e) (threshold_above_le n ys))
    (λ e. let g = h (get_or xs e.0 0) (has_get_or xs e.0 0 e.1) in
    let i : get_or ys g.0 0 ≡ get_or xs e.0 0 = g.2 0 in
    let l = above_least n ys g.0 g.1 (omega (arith, i, e.2)) in omega (arith, l, i, e.3))
    (above_from n xs)

-- the same numbers, the same threshold above
pub above_same : (n : ℕ) (xs ys : List ℕ) → Included xs ys → Included ys xs → threshold_above n xs ≡ threshold_above n ys
above_same n xs ys h g = le_antisymm (above_included n ys xs g) (above_included n xs ys h)

-- no less than any of the list that is n or less
pub below_greatest : (n : ℕ) (ms : List ℕ) (k : ℕ) → k < length ms → get_or ms k 0 ≤ n → get_or ms k 0 ≤ threshold_below n ms
unfolding threshold_below
below_greatest n [] k h l = absurd (omega arith)
below_greatest n (m ∷ ms) zero h l = grind (arith, nat_tests)
below_greatest n (m ∷ ms) (suc k) h l = let e = below_greatest n ms k (omega arith) l in grind (arith, nat_tests)

-- where the threshold comes from: 0, or one of the list that is n or less
abbrev pub BelowFrom : ℕ → List ℕ → ℕ → Type 0
BelowFrom n ms r = (r ≡ 0) ⊎ ((k : ℕ) × (k < length ms) × (get_or ms k 0 ≤ n) × (r ≡ get_or ms k 0))

-- one more in front
below_later : (n m : ℕ) (ms : List ℕ) (r : ℕ) → BelowFrom n ms r → BelowFrom n (m ∷ ms) r
below_later n m ms r h = ⊎_elim (λ e. inl e) (λ e. inr (suc e.0, omega arith, e.2, e.3)) h

-- the step of the recursion: m is taken if it passes and is larger
below_step : (n m : ℕ) (ms : List ℕ) (r : ℕ) (p q : Bool) → (p ≡ true → m ≤ n) → BelowFrom n ms r → BelowFrom n (m ∷ ms) (cond p (cond q r m) r)
below_step n m ms r false q l h = below_later n m ms r h
below_step n m ms r true true l h = below_later n m ms r h
below_step n m ms r true false l h = inr (0, omega arith, l refl, refl)

below_from : (n : ℕ) (ms : List ℕ) → BelowFrom n ms (threshold_below n ms)
unfolding threshold_below
below_from n [] = inl refl
below_from n (m ∷ ms) = below_step n m ms (threshold_below n ms) (leb m n) (ltb m (threshold_below n ms)) (leb-true m n) (below_from n ms)

-- what the threshold below is: no less than those of n and less, and 0 or one of them
pub below_is : (n : ℕ) (ms : List ℕ) (r : ℕ) → ((k : ℕ) → k < length ms → get_or ms k 0 ≤ n → get_or ms k 0 ≤ r) → BelowFrom n ms r → r ≡ threshold_below n ms
below_is n ms r greatest from =
    le_antisymm
    (⊎_elim (λ e. omega (arith, e)) (λ e. omega (arith, below_greatest n ms e.0 e.1 e.2, e.3)) from)
    (⊎_elim (λ e. omega (arith, e)) (λ e. omega (arith, greatest e.0 e.1 e.2, e.3)) (below_from n ms))

-- of more numbers the greatest is no less
below_included : (n : ℕ) (xs ys : List ℕ) → Included xs ys → threshold_below n xs ≤ threshold_below n ys
below_included n xs ys h =
    ⊎_elim (λ e. omega (arith, e))
    (λ e. let g = h (get_or xs e.0 0) (has_get_or xs e.0 0 e.1) in
    let i : get_or ys g.0 0 ≡ get_or xs e.0 0 = g.2 0 in
    let l = below_greatest n ys g.0 g.1 (omega (arith, i, e.2)) in omega (arith, l, i, e.3))
    (below_from n xs)

-- the same numbers, the same threshold below
pub below_same : (n : ℕ) (xs ys : List ℕ) → Included xs ys → Included ys xs → threshold_below n xs ≡ threshold_below n ys
below_same n xs ys h g = le_antisymm (below_included n xs ys h) (below_included n ys xs g)

-- another order of a list has the same numbers
pub shuffled_included : (xs ys : List ℕ) → IsPermutation xs ys → Included xs ys
shuffled_included xs ys h x = has_shuffled xs ys x h

-- sorting changes no threshold above
pub above_shuffled : (n : ℕ) (xs ys : List ℕ) → IsPermutation xs ys → threshold_above n xs ≡ threshold_above n ys
above_shuffled n xs ys h = above_same n xs ys (shuffled_included xs ys h) (shuffled_included ys xs (IsPermutation-sym xs ys h))

-- sorting changes no threshold below
pub below_shuffled : (n : ℕ) (xs ys : List ℕ) → IsPermutation xs ys → threshold_below n xs ≡ threshold_below n ys
below_shuffled n xs ys h = below_same n xs ys (shuffled_included xs ys h) (shuffled_included ys xs (IsPermutation-sym xs ys h))

-- sorting changes no widened interval
pub widen_shuffled : (xs ys : List ℕ) → IsPermutation xs ys → (a b : Interval) → widen_interval xs a b ≡ widen_interval ys a b
widen_shuffled xs ys h a b = rw (above_shuffled b.hi xs ys h, below_shuffled b.lo xs ys h) refl
