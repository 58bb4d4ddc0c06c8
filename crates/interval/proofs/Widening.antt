-- Widening by a list of thresholds is widening to the two next thresholds. Rests on the definitions alone.
use Rattle.std.proofs.Common.{◌≡◌, ℕ, ◌≤◌, List, [], ◌∷◌, arith}
use Rattle.std.proofs.lemmas.Bool.Decides.{nat_tests}
use Rattle.interval.specs.Interval.{Interval, top, threshold_above, threshold_below, widen_interval}
use Rattle.interval.specs.Of.{widen_to}

-- the threshold below n is no larger
pub threshold_below_le : (n : ℕ) (ms : List ℕ) → threshold_below n ms ≤ n
unfolding threshold_below
threshold_below_le n [] = omega arith
threshold_below_le n (m ∷ ms) = let h = threshold_below_le n ms in grind (arith, nat_tests)

-- the threshold above n is no smaller
pub threshold_above_ge : (n : ℕ) (ms : List ℕ) → n ≤ top → n ≤ threshold_above n ms
unfolding threshold_above
threshold_above_ge n [] le = le
threshold_above_ge n (m ∷ ms) le = let h = threshold_above_ge n ms le in grind (arith, nat_tests)

-- the threshold above n is a number
pub threshold_above_le : (n : ℕ) (ms : List ℕ) → threshold_above n ms ≤ top
unfolding threshold_above
threshold_above_le n [] = omega arith
threshold_above_le n (m ∷ ms) = let h = threshold_above_le n ms in grind (arith, nat_tests)

-- the code widens to the two next thresholds
pub widen_interval_to : (ms : List ℕ) (a b : Interval) → b.hi ≤ top →
    widen_interval ms a b ≡ widen_to a b (threshold_below b.lo ms) (threshold_above b.hi ms)
widen_interval_to ms a b le =
    let l = threshold_below_le b.lo ms in
    let g = threshold_above_ge b.hi ms le in
    let t = threshold_above_le b.hi ms in
    grind (arith, nat_tests)
