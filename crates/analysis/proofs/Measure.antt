-- How far widening can still go: thresholds left below the lower bound and above the upper one. A widened interval has
-- no more of them left, and fewer if it was left. Rests on the definitions of widening alone.
use Rattle.std.proofs.Common.{◌≡◌, ℕ, suc, ◌+◌, ◌*◌, ◌<◌, ◌≤◌, Bool, true, false, cond, ◌&&◌, ltb, ◌⊎◌, List, [], ◌∷◌, length, refl, suc-mul, arith}
use Rattle.std.proofs.lemmas.Bool.Decides.{nat_tests}
use Rattle.program.specs.Basics.{limit}
use Rattle.interval.specs.Interval.{Interval, top, join_interval, within_interval, threshold_above, threshold_below, widen_interval}
use Rattle.analysis.specs.AbstractState.{zip_with, all_within}
use Rattle.analysis.proofs.Relations.{All, Proper}

-- how many of 0 and the thresholds lie below n
abbrev pub low_left : List ℕ → ℕ → ℕ
low_left [] n = cond (ltb 0 n) 1 0
low_left (m ∷ ms) n = cond (ltb m n) (suc (low_left ms n)) (low_left ms n)

-- how many of the largest number and the thresholds lie above n
abbrev pub high_left : List ℕ → ℕ → ℕ
high_left [] n = cond (ltb n top) 1 0
high_left (m ∷ ms) n = cond (ltb n m) (suc (high_left ms n)) (high_left ms n)

pub low_most : (ms : List ℕ) (n : ℕ) → low_left ms n ≤ suc (length ms)
low_most [] n = grind (arith, nat_tests)
low_most (m ∷ ms) n = let e = low_most ms n in grind (arith, nat_tests)

pub high_most : (ms : List ℕ) (n : ℕ) → high_left ms n ≤ suc (length ms)
high_most [] n = grind (arith, nat_tests)
high_most (m ∷ ms) n = let e = high_most ms n in grind (arith, nat_tests)

low_monotone : (ms : List ℕ) (b a : ℕ) → b ≤ a → low_left ms b ≤ low_left ms a
low_monotone [] b a h = grind (arith, nat_tests)
low_monotone (m ∷ ms) b a h = let e = low_monotone ms b a h in grind (arith, nat_tests)

high_monotone : (ms : List ℕ) (a b : ℕ) → a ≤ b → high_left ms b ≤ high_left ms a
high_monotone [] a b h = grind (arith, nat_tests)
high_monotone (m ∷ ms) a b h = let e = high_monotone ms a b h in grind (arith, nat_tests)

-- where a bound goes on to: not past what asked for it, and below 2^32
pub below_low : (b : ℕ) (ms : List ℕ) → threshold_below b ms ≤ b
unfolding threshold_below
below_low b [] = omega arith
below_low b (m ∷ ms) = let e = below_low b ms in grind (arith, nat_tests)

pub above_high : (b : ℕ) (ms : List ℕ) → b < limit → (b ≤ threshold_above b ms) × (threshold_above b ms < limit)
unfolding threshold_above
above_high b [] h = (omega arith, omega arith)
above_high b (m ∷ ms) h = let e = above_high b ms h in (grind (arith, nat_tests), grind (arith, nat_tests))

low_less : (ms : List ℕ) (b a : ℕ) → b < a → low_left ms (threshold_below b ms) < low_left ms a
unfolding threshold_below
low_less [] b a h = grind (arith, nat_tests)
low_less (m ∷ ms) b a h =
    let e = low_less ms b a h in let f = low_monotone ms m a in let g = below_low b ms in grind (arith, nat_tests)

high_less : (ms : List ℕ) (a b : ℕ) → a < b → b < limit → high_left ms (threshold_above b ms) < high_left ms a
unfolding threshold_above
high_less [] a b h k = grind (arith, nat_tests)
high_less (m ∷ ms) a b h k =
    let e = high_less ms a b h k in let f = high_monotone ms a m in let g = above_high b ms k in grind (arith, nat_tests)

-- how far an interval can still be widened
abbrev pub weight : List ℕ → Interval → ℕ
weight ms a = low_left ms a.lo + high_left ms a.hi

-- one round's new interval: a widened by its join with g
abbrev pub widened : List ℕ → Interval → Interval → Interval
widened ms a g = widen_interval ms a (join_interval a g)

low_step : (ms : List ℕ) (a g : Interval) → (low_left ms (widened ms a g).lo < low_left ms a.lo) ⊎ (((widened ms a g).lo ≡ a.lo) × (a.lo ≤ g.lo))
low_step ms a g = let e = low_less ms g.lo a.lo in grind (arith, nat_tests)

high_step : (ms : List ℕ) (a g : Interval) → g.hi < limit → (high_left ms (widened ms a g).hi < high_left ms a.hi) ⊎ (((widened ms a g).hi ≡ a.hi) × (g.hi ≤ a.hi))
high_step ms a g k = let e = high_less ms a.hi g.hi in grind (arith, nat_tests)

weight_step : (ms : List ℕ) (a g : Interval) → g.hi < limit → weight ms (widened ms a g) ≤ weight ms a
weight_step ms a g k = let e = low_step ms a g in let f = high_step ms a g k in grind (arith)

weight_less : (ms : List ℕ) (a g : Interval) → g.hi < limit → within_interval g a ≡ false → weight ms (widened ms a g) < weight ms a
weight_less ms a g k n = let e = low_step ms a g in let f = high_step ms a g k in grind (arith, nat_tests)

-- the same of lists, added up
abbrev pub total : List ℕ → List Interval → ℕ
total ms [] = 0
total ms (a ∷ as₁) = weight ms a + total ms as₁

-- one round's new intervals
abbrev pub all_widened : List ℕ → List Interval → List Interval → List Interval
all_widened ms as₁ gs = zip_with (widen_interval ms) as₁ (zip_with join_interval as₁ gs)

pub total_step : (ms : List ℕ) (as₁ gs : List Interval) → All Proper gs → length gs ≡ length as₁ → total ms (all_widened ms as₁ gs) ≤ total ms as₁
unfolding zip_with
total_step ms [] gs h e = omega arith
total_step ms (a ∷ as₁) [] h e = absurd (omega arith)
total_step ms (a ∷ as₁) (g ∷ gs) h e =
    let i = total_step ms as₁ gs h.1 (omega arith) in let k = weight_step ms a g h.0.1 in omega arith

pub total_less : (ms : List ℕ) (as₁ gs : List Interval) → All Proper gs → length gs ≡ length as₁ → all_within gs as₁ ≡ false → total ms (all_widened ms as₁ gs) < total ms as₁
unfolding zip_with all_within
total_less ms [] [] h e n = absurd (grind arith)
total_less ms [] (g ∷ gs) h e n = absurd (omega arith)
total_less ms (a ∷ as₁) [] h e n = absurd (omega arith)
total_less ms (a ∷ as₁) (g ∷ gs) h e n =
    go (within_interval g a) refl n (total_less ms as₁ gs h.1 (omega arith))
  where
    go : (c : Bool) → within_interval g a ≡ c → (c && all_within gs as₁) ≡ false →
        (all_within gs as₁ ≡ false → total ms (all_widened ms as₁ gs) < total ms as₁) → total ms (all_widened ms (a ∷ as₁) (g ∷ gs)) < total ms (a ∷ as₁)
    go true q m f = let i = f m in let k = weight_step ms a g h.0.1 in omega arith
    go false q m f = let k = weight_less ms a g h.0.1 q in let i = total_step ms as₁ gs h.1 (omega arith) in omega arith

pub total_most : (ms : List ℕ) (as₁ : List Interval) → total ms as₁ ≤ length as₁ * (2 * suc (length ms))
total_most ms [] = omega arith
total_most ms (a ∷ as₁) =
    let i = total_most ms as₁ in let k = low_most ms a.lo in let l = high_most ms a.hi in
    rw (suc-mul (length as₁) (2 * suc (length ms))) (omega arith)
