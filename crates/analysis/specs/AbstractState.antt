-- What is known at a statement: an interval for each variable and array, or that nothing comes here. Assumes nothing: these are definitions.
use Rattle.std.specs.Prelude.{ℕ, zero, suc, Bool, true, false, ◌&&◌, List, [], ◌∷◌}
use Rattle.interval.specs.Interval.{Interval, interval, join_interval, within_interval, widen_interval}
use Rattle.analysis.specs.Reach.{Reach, unreached, reached}

-- an interval for each variable, and one for all elements of each array
pub record Env : Type 0 where
  pub values : List Interval
  pub arrays : List Interval

-- an abstract state: nothing comes here, or what does lies so
abbrev pub Abstract : Type 0
Abstract = Reach Env

-- the k-th interval; past the end 0 to 0
unfoldable pub nth_interval : List Interval → ℕ → Interval
nth_interval [] k = interval 0 0
nth_interval (s ∷ ss) zero = s
nth_interval (s ∷ ss) (suc k) = nth_interval ss k

-- element by element
unfoldable pub zip_with : (Interval → Interval → Interval) → List Interval → List Interval → List Interval
zip_with f [] bs = []
zip_with f (a ∷ as₁) [] = []
zip_with f (a ∷ as₁) (b ∷ bs) = f a b ∷ zip_with f as₁ bs

-- interval by interval
abbrev pub zip_env : (Interval → Interval → Interval) → Env → Env → Env
zip_env f w v = record { values = zip_with f w.values v.values; arrays = zip_with f w.arrays v.arrays }

-- of two abstract states, interval by interval if both are reached
unfoldable pub merge : (Interval → Interval → Interval) → Abstract → Abstract → Abstract
merge f unreached h = h
merge f (reached w) unreached = reached w
merge f (reached w) (reached v) = reached (zip_env f w v)

-- what either holds
abbrev pub join : Abstract → Abstract → Abstract
join h g = merge join_interval h g

-- widening, interval by interval
abbrev pub widen : List ℕ → Abstract → Abstract → Abstract
widen ms h g = merge (widen_interval ms) h g

-- so element by element
unfoldable pub all_within : List Interval → List Interval → Bool
all_within [] bs = true
all_within (a ∷ as₁) [] = false
all_within (a ∷ as₁) (b ∷ bs) = within_interval a b && all_within as₁ bs

-- all that the first holds, the second holds
unfoldable pub within : Abstract → Abstract → Bool
within unreached h = true
within (reached w) unreached = false
within (reached w) (reached v) = all_within w.values v.values && all_within w.arrays v.arrays
