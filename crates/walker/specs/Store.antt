-- A store's index and value put together. Assumes nothing: these are definitions.
use Rattle.std.specs.Prelude.{ℕ, List, [], ◌∷◌, ◌++◌}
use Rattle.program.specs.Basics.{flat_map}
use Rattle.interval.specs.Interval.{Interval}
use Rattle.interval.specs.Arithmetic.{EvalResult, eval_result}
use Rattle.analysis.specs.Analyser.{index_faults, index_in_range}

-- what is stored, if there is an index in range
abbrev pub if_index : List Interval → List Interval → List Interval
if_index [] vs = []
if_index (i ∷ is) vs = vs

-- what is stored in an array of n elements, if anything, and what may go wrong on the way
abbrev pub store_result : ℕ → EvalResult → EvalResult → EvalResult
store_result n i v =
    eval_result (if_index (index_in_range n i.intervals) v.intervals)
    (i.faults ++ flat_map (λ s. v.faults) i.intervals ++ flat_map (λ s. index_faults n i.intervals) v.intervals)
