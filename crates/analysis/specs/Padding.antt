-- Abstract states with more variables and arrays than a program has, all of them 0, and that the analysis tells the same of them. Assumes nothing: these are definitions.
use Rattle.std.specs.Prelude.{◌≡◌, ℕ, true, List, ◌++◌, length, replicate}
use Rattle.program.specs.Syntax.{Stmt}
use Rattle.program.specs.Validity.{valid_stmt}
use Rattle.interval.specs.Interval.{Interval, interval}
use Rattle.analysis.specs.Reach.{unreached, reached, analysis, ReachedImplies}
use Rattle.analysis.specs.AbstractState.{Env, Abstract}
use Rattle.analysis.specs.Analyser.{analyse}

-- k more intervals, all 0 to 0
abbrev pub pad_list : ℕ → List Interval → List Interval
pad_list k ss = ss ++ replicate k (interval 0 0)

-- k more variables and j more arrays
abbrev pub pad_env : ℕ → ℕ → Env → Env
pad_env k j w = record { values = pad_list k w.values; arrays = pad_list j w.arrays }

-- the same of an abstract state
unfoldable pub pad : ℕ → ℕ → Abstract → Abstract
pad k j unreached = unreached
pad k j (reached w) = reached (pad_env k j w)

-- n variables and r arrays, if it is reached
abbrev pub Sized : ℕ → ℕ → Abstract → Type 0
Sized n r h = ReachedImplies (λ w. (length w.values ≡ n) × (length w.arrays ≡ r)) h

-- a statement over n variables and r arrays leaves more as they are, and its alarms are the same
unfoldable pub PaddingTells : Type 0
PaddingTells =
    (ns ms : List ℕ) (n r k j m : ℕ) (d : Stmt) (h : Abstract) → valid_stmt n r d ≡ true → Sized n r h →
    analyse ns ms m d (pad k j h) ≡ analysis (pad k j (analyse ns ms m d h).out) (analyse ns ms m d h).alarms
