-- The code's intervals, faults and results against the definitions. Assumes nothing: these are definitions.
use Rattle.std.specs.Prelude.{◌≡◌, ℕ, ◌<◌, false, cond, ◌&&◌, ◌||◌, List, [], ◌∷◌, Some, None, Option, nat_eq, nat_le, nat_lt}
use Rattle.program.specs.Basics.{any, smaller, larger, limit}
use Rattle.interval.specs.Interval.{Interval as PlainInterval, interval, top}
use Rattle.interval.specs.Arithmetic.{EvalResult as PlainResult}
use Rattle.interval.specs.declared.types.Interval.{Interval}
use Rattle.interval.specs.declared.types.Faults.{Faults}
use Rattle.interval.specs.declared.types.EvalResult.{EvalResult}

-- the interval of the definitions
abbrev pub as_interval : Interval → PlainInterval
as_interval s = interval s.lo s.hi

-- f has exactly the kinds of ks
pub record Faulty (f : Faults) (ks : List ℕ) : Type 0 where
  pub overflow : f.overflow ≡ any (nat_eq 1) ks
  pub divisor : f.divisor ≡ any (nat_eq 2) ks
  pub index : f.index ≡ any (nat_eq 3) ks
  pub check : f.check ≡ any (nat_eq 4) ks

-- the kinds of either
abbrev pub faults_or : Faults → Faults → Faults
faults_or f g =
    record { overflow = f.overflow || g.overflow; divisor = f.divisor || g.divisor; index = f.index || g.index; check = f.check || g.check }

-- the result with the kinds of f before its own
abbrev pub after_faults : Faults → EvalResult → EvalResult
after_faults f r = record { interval = r.interval; faults = faults_or f r.faults }

-- the interval that is there, or none
abbrev pub as_intervals : Option Interval → List PlainInterval
as_intervals (Some s) = as_interval s ∷ []
as_intervals None = []

-- r says what w says
pub record Says (r : EvalResult) (w : PlainResult) : Type 0 where
  pub intervals : w.intervals ≡ as_intervals r.interval
  pub faults : Faulty r.faults w.faults

-- r is the interval from lo to hi, and there is none unless these are its bounds
abbrev pub Made : Option Interval → ℕ → ℕ → Type 0
Made (Some s) lo hi = (s.lo ≡ lo) × (s.hi ≡ hi)
Made None lo hi = nat_le lo hi && nat_lt hi limit ≡ false

-- r is the interval m, and there is none if m is empty
abbrev pub Nonempty : Option Interval → PlainInterval → Type 0
Nonempty (Some s) m = as_interval s ≡ m
Nonempty None m = m.hi < m.lo

-- a bound of a that b passes goes on to the threshold, or to b's own bound if that lies further; never beyond the largest number
abbrev pub widen_to : PlainInterval → PlainInterval → ℕ → ℕ → PlainInterval
widen_to a b below above =
    interval (cond (nat_lt b.lo a.lo) (smaller below b.lo) a.lo) (cond (nat_lt a.hi b.hi) (smaller (larger above b.hi) top) a.hi)
