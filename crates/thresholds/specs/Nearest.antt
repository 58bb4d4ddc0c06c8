-- What a search for the nearest threshold says of its answer. Assumes nothing: these are definitions.
use Rattle.std.specs.Prelude.{◌≡◌, ℕ, ◌≤◌, List}
use Rattle.interval.specs.Interval.{top, threshold_above, threshold_below}

-- r is the nearest threshold above n: a number, and n or more if n is one
pub record IsAbove (n : ℕ) (ms : List ℕ) (r : ℕ) : Type 0 where
  pub is : r ≡ threshold_above n ms
  pub small : r ≤ top
  pub reaches : n ≤ top → n ≤ r
  pub past : top ≤ n → r ≡ top

-- r is the nearest threshold below n
pub record IsBelow (n : ℕ) (ms : List ℕ) (r : ℕ) : Type 0 where
  pub is : r ≡ threshold_below n ms
  pub small : r ≤ n
