-- Intervals of numbers: arithmetic, joining, cutting, widening. Assumes nothing: these are definitions.
use Rattle.std.specs.Prelude.{ℕ, Bool, cond, ◌&&◌, List, [], ◌∷◌, nat_le, nat_lt}
use Rattle.program.specs.Basics.{smaller, larger}

-- all numbers from lo to hi
pub record Interval : Type 0 where
  pub lo : ℕ
  pub hi : ℕ

-- the interval from a to b
abbrev pub interval : ℕ → ℕ → Interval
interval a b = record { lo = a; hi = b }

-- the largest number
abbrev pub top : ℕ
top = 4294967295

-- the least interval that holds both
abbrev pub join_interval : Interval → Interval → Interval
join_interval a b = interval (smaller a.lo b.lo) (larger a.hi b.hi)

-- what two intervals share
abbrev pub meet : Interval → Interval → Interval
meet a b = interval (larger a.lo b.lo) (smaller a.hi b.hi)

-- the first lies within the second
abbrev pub within_interval : Interval → Interval → Bool
within_interval a b = nat_le b.lo a.lo && nat_le a.hi b.hi

-- n lies in the interval
abbrev pub lies_in : ℕ → Interval → Bool
lies_in n s = nat_le s.lo n && nat_le n s.hi

-- the least threshold that is n or more; top if there is none
unfoldable pub threshold_above : ℕ → List ℕ → ℕ
threshold_above n [] = top
threshold_above n (m ∷ ms) = cond (nat_le n m) (smaller m (threshold_above n ms)) (threshold_above n ms)

-- the greatest threshold that is n or less; 0 if there is none
unfoldable pub threshold_below : ℕ → List ℕ → ℕ
threshold_below n [] = 0
threshold_below n (m ∷ ms) = cond (nat_le m n) (larger m (threshold_below n ms)) (threshold_below n ms)

-- a bound that has grown goes on to the next threshold
abbrev pub widen_interval : List ℕ → Interval → Interval → Interval
widen_interval ms a b =
    interval (cond (nat_lt b.lo a.lo) (threshold_below b.lo ms) a.lo) (cond (nat_lt a.hi b.hi) (threshold_above b.hi ms) a.hi)
