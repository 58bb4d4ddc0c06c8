-- What the states of the code stand for. Assumes nothing: these are definitions.
use Rattle.std.specs.Prelude.{◌≡◌, List, map}
use Rattle.interval.specs.Interval as plain_interval
use Rattle.interval.specs.declared.types.Interval.{Interval}
use Rattle.interval.specs.Of.{as_interval}
use Rattle.analysis.specs.Reach.{unreached, reached}
use Rattle.analysis.specs.AbstractState as plain
use Rattle.state.specs.declared.types.Env.{Env}
use Rattle.state.specs.declared.types.Abstract.{Abstract}
use Rattle.state.specs.declared.types.Abstract.TheVariants.{Unreached, Reached}

-- a list of intervals
abbrev pub as_intervals : List Interval → List plain_interval.Interval
as_intervals ss = map as_interval ss

-- the interval of each variable and array
abbrev pub as_env : Env → plain.Env
as_env w = record { values = as_intervals w.values; arrays = as_intervals w.arrays }

-- an abstract state
abbrev pub as_abstract : Abstract → plain.Abstract
as_abstract Unreached = unreached
as_abstract (Reached w) = reached (as_env w)

-- what a call leaves of two intervals of the code stands for op of those that they stand for
abbrev pub Computes : (Interval → Interval → Interval → Type 0) → (plain_interval.Interval → plain_interval.Interval → plain_interval.Interval) → Type 0
Computes post op = (a b r : Interval) → post a b r → as_interval r ≡ op (as_interval a) (as_interval b)
