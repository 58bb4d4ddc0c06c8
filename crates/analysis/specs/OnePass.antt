-- A test worked out once for both outcomes and its faults, and that this tells the same. Assumes nothing: these are definitions.
use Rattle.std.specs.Prelude.{◌≡◌, ℕ, true, false, List, [], ◌++◌}
use Rattle.program.specs.Basics.{flat_map}
use Rattle.program.specs.Syntax.{Test, less, equal, not_test, and_test, or_test}
use Rattle.interval.specs.Interval.{Interval}
use Rattle.interval.specs.Arithmetic.{EvalResult}
use Rattle.analysis.specs.Reach.{unreached, reached}
use Rattle.analysis.specs.AbstractState.{Env, Abstract, join}
use Rattle.analysis.specs.Evaluation.{eval_interval}
use Rattle.analysis.specs.Assume.{if_both, assume_less, assume_not_less, assume_equal, assume_unequal, assume, test_faults}

-- what is known if a test holds, what is known if it does not, and what may go wrong in it
pub record Ways : Type 0 where
  pub yes : Abstract
  pub no : Abstract
  pub faults : List ℕ

-- such ways
abbrev pub ways : Abstract → Abstract → List ℕ → Ways
ways y n ks = record { yes = y; no = n; faults = ks }

-- a comparison of two expressions that are worked out
abbrev pub compared : EvalResult → EvalResult → (Interval → Interval → Abstract) → (Interval → Interval → Abstract) → Ways
compared x z y n =
    ways (if_both x.intervals z.intervals y) (if_both x.intervals z.intervals n) (x.faults ++ flat_map (λ s. z.faults) x.intervals)

-- the other way round
abbrev pub negated : Ways → Ways
negated r = ways r.no r.yes r.faults

-- the ways from what is known, if anything comes here
unfoldable pub ways_in : Abstract → (Env → Ways) → Ways
ways_in unreached f = ways unreached unreached []
ways_in (reached w) f = f w

-- r holds, and s, worked out where r holds, does too
abbrev pub both_hold : Ways → Ways → Ways
both_hold r s = ways s.yes (join r.no s.no) (r.faults ++ s.faults)

-- r holds, or s, worked out where r does not, does
abbrev pub one_holds : Ways → Ways → Ways
one_holds r s = ways (join r.yes s.yes) s.no (r.faults ++ s.faults)

-- a test in one pass: each of its tests is worked out once
unfoldable pub both_ways : List ℕ → Test → Env → Ways
both_ways ns (less a b) w = compared (eval_interval ns w a) (eval_interval ns w b) (assume_less a b w) (assume_not_less a b w)
both_ways ns (equal a b) w = compared (eval_interval ns w a) (eval_interval ns w b) (assume_equal a b w) (assume_unequal a b w)
both_ways ns (not_test t) w = negated (both_ways ns t w)
both_ways ns (and_test t u) w = let r : Ways = both_ways ns t w in both_hold r (ways_in r.yes (λ v. both_ways ns u v))
both_ways ns (or_test t u) w = let r : Ways = both_ways ns t w in one_holds r (ways_in r.no (λ v. both_ways ns u v))

-- one pass tells what two assumptions and the faults tell
unfoldable pub OnePass : Type 0
OnePass = (ns : List ℕ) (t : Test) (w : Env) → both_ways ns t w ≡ ways (assume ns true t w) (assume ns false t w) (test_faults ns t w)
