-- Look-ups in a state, and what changes of it make, as the code does them in place. Assumes nothing: these are definitions.
use Rattle.std.specs.Prelude.{ℕ, Bool, ◌&&◌, replicate, Some, None, Option, slice_set}
use Rattle.interval.specs.Interval.{Interval, interval, join_interval, meet}
use Rattle.analysis.specs.Reach.{unreached, reached}
use Rattle.analysis.specs.AbstractState.{Env, Abstract, nth_interval, all_within}
use Rattle.analysis.specs.Assume.{cut_variable}

-- 64 variables and 16 arrays, all 0
abbrev pub initial_env : Env
initial_env = record { values = replicate 64 (interval 0 0); arrays = replicate 16 (interval 0 0) }

-- a variable has this interval
abbrev pub with_variable : Env → ℕ → Interval → Env
with_variable w x s = record { values = slice_set w.values x s; arrays = w.arrays }

-- an array's interval is joined with this one
abbrev pub with_stored : Env → ℕ → Interval → Env
with_stored w r s = record { values = w.values; arrays = slice_set w.arrays r (join_interval (nth_interval w.arrays r) s) }

-- each interval lies within that of the other
abbrev pub env_within : Env → Env → Bool
env_within w v = all_within w.values v.values && all_within w.arrays v.arrays

-- a variable's interval; where nothing comes 0 to 0
abbrev pub variable_in : Abstract → ℕ → Interval
variable_in unreached x = interval 0 0
variable_in (reached w) x = nth_interval w.values x

-- an array's interval; where nothing comes 0 to 0
abbrev pub array_in : Abstract → ℕ → Interval
array_in unreached r = interval 0 0
array_in (reached w) r = nth_interval w.arrays r

-- a variable has this interval, where something comes
abbrev pub put_in : Abstract → ℕ → Interval → Abstract
put_in unreached x s = unreached
put_in (reached w) x s = reached (with_variable w x s)

-- an array's interval is joined with this one, where something comes
abbrev pub store_in : Abstract → ℕ → Interval → Abstract
store_in unreached r s = unreached
store_in (reached w) r s = reached (with_stored w r s)

-- the variable, if one is named, is cut to s
abbrev pub cut_at : Option ℕ → Env → Interval → Abstract
cut_at None w s = reached w
cut_at (Some x) w s = cut_variable w x (meet (nth_interval w.values x) s)

-- the same where something comes
abbrev pub cut_in : Option ℕ → Abstract → Interval → Abstract
cut_in x unreached s = unreached
cut_in x (reached w) s = cut_at x w s
