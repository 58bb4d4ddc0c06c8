-- Which states an abstract state stands for. Assumes nothing: these are definitions.
use Rattle.std.specs.Prelude.{ℕ, Bool, false, ◌&&◌, List, [], ◌∷◌, length, ◌==◌}
use Rattle.program.specs.Basics.{all, any, is_empty}
use Rattle.program.specs.Semantics.{State}
use Rattle.interval.specs.Interval.{Interval, lies_in}
use Rattle.analysis.specs.Reach.{unreached, reached, Alarm}
use Rattle.analysis.specs.AbstractState.{Env, Abstract}

-- value by value
unfoldable pub all_lie_in : List ℕ → List Interval → Bool
all_lie_in [] ss = is_empty ss
all_lie_in (n ∷ ns) [] = false
all_lie_in (n ∷ ns) (s ∷ ss) = lies_in n s && all_lie_in ns ss

-- array by array: the length is as declared, and every element lies in the interval
unfoldable pub arrays_lie_in : List (List ℕ) → List ℕ → List Interval → Bool
arrays_lie_in [] ns ss = is_empty ns && is_empty ss
arrays_lie_in (r ∷ rs) [] ss = false
arrays_lie_in (r ∷ rs) (n ∷ ns) [] = false
arrays_lie_in (r ∷ rs) (n ∷ ns) (s ∷ ss) = (length r == n && all (λ v. lies_in v s) r) && arrays_lie_in rs ns ss

-- a state lies in what is known
abbrev pub describes : List ℕ → State → Env → Bool
describes ns s w = all_lie_in s.values w.values && arrays_lie_in s.arrays ns w.arrays

-- a state lies in an abstract state
unfoldable pub covers : List ℕ → State → Abstract → Bool
covers ns s unreached = false
covers ns s (reached w) = describes ns s w

-- that alarm is among them
abbrev pub has_alarm : List Alarm → ℕ → ℕ → Bool
has_alarm as₁ d k = any (λ a. (a.stmt == d) && a.kind == k) as₁
