-- The plain analyser: one pass through a program with what is known. Assumes nothing: these are definitions.
use Rattle.std.specs.Prelude.{ℕ, true, false, cond, ltb, List, [], ◌∷◌, ◌++◌, nat_lt, slice_index, slice_set}
use Rattle.program.specs.Basics.{filter, flat_map, larger}
use Rattle.program.specs.Syntax.{Stmt, skip, assign, store, input, check, seq, branch, loop}
use Rattle.interval.specs.Interval.{Interval, interval, join_interval}
use Rattle.analysis.specs.Reach.{unreached, reached, bind, Analysis, analysis, alarms_at, with_alarms, if_reached}
use Rattle.analysis.specs.AbstractState.{Env, Abstract, nth_interval, join, within}
use Rattle.analysis.specs.Evaluation.{eval_interval}
use Rattle.analysis.specs.Assume.{assume, test_faults}
use Rattle.analysis.specs.Iteration.{iterate}

-- a variable gets the interval, if there is one
unfoldable pub assigned : Env → ℕ → List Interval → Abstract
assigned w x [] = unreached
assigned w x (s ∷ ss) = reached (record { values = slice_set w.values x s; arrays = w.arrays })

-- the array's interval is joined with what is stored: the other elements stay
unfoldable pub stored : Env → ℕ → List Interval → List Interval → Abstract
stored w r [] vs = unreached
stored w r (i ∷ is) [] = unreached
stored w r (i ∷ is) (v ∷ vs) = reached (record { values = w.values; arrays = slice_set w.arrays r (join_interval (nth_interval w.arrays r) v) })

-- the index can be too large
abbrev pub index_faults : ℕ → List Interval → List ℕ
index_faults n is = flat_map (λ i. cond (nat_lt i.hi n) [] (3 ∷ [])) is

-- the index, if it can be in range
abbrev pub index_in_range : ℕ → List Interval → List Interval
index_in_range n is = filter (λ i. ltb i.lo n) is

-- one pass through a statement
unfoldable pub analyse : List ℕ → List ℕ → ℕ → Stmt → Abstract → Analysis Env
analyse ns ms n skip h = analysis h []
analyse ns ms n (assign p x e) h = if_reached h (λ w. analysis (assigned w x (eval_interval ns w e).intervals) (alarms_at p (eval_interval ns w e).faults))
analyse ns ms n (store p r a e) h =
    if_reached h (λ w. analysis (stored w r (index_in_range (slice_index ns r) (eval_interval ns w a).intervals) (eval_interval ns w e).intervals)
    (alarms_at p ((eval_interval ns w a).faults ++ flat_map (λ s. (eval_interval ns w e).faults) (eval_interval ns w a).intervals
    ++ flat_map (λ s. index_faults (slice_index ns r) (eval_interval ns w a).intervals) (eval_interval ns w e).intervals)))
analyse ns ms n (input p x a b) h = if_reached h (λ w. analysis (reached (record { values = slice_set w.values x (interval a (larger a b)); arrays = w.arrays })) [])
analyse ns ms n (check p t) h =
    if_reached h (λ w. analysis (assume ns true t w) (alarms_at p (test_faults ns t w ++ cond (within (assume ns false t w) unreached) [] (4 ∷ []))))
analyse ns ms n (seq a b) h = with_alarms (analyse ns ms n a h).alarms (analyse ns ms n b (analyse ns ms n a h).out)
analyse ns ms n (branch p t a b) h =
    if_reached h (λ w. with_alarms (alarms_at p (test_faults ns t w))
    (let x : Analysis Env = analyse ns ms n a (assume ns true t w) in
    let y : Analysis Env = analyse ns ms n b (assume ns false t w) in
    analysis (join x.out y.out) (x.alarms ++ y.alarms)))
analyse ns ms n (loop p t a) h =
    let inv : Abstract = iterate ms 4 n (λ g. join h (bind g (λ v. (analyse ns ms n a (assume ns true t v)).out))) h in
    if_reached inv (λ w. with_alarms (alarms_at p (test_faults ns t w)) (analysis (assume ns false t w) (analyse ns ms n a (assume ns true t w)).alarms))
