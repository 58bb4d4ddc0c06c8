-- Statements without parts: what is known behind one is well formed and holds the state behind it, and its fault is an alarm.
-- Rests on evaluation, tests and the changes of one variable or array.
use Rattle.std.proofs.Common.{◌≡◌, ℕ, zero, suc, ◌<◌, ◌≤◌, Bool, true, false, cond, ◌&&◌, eqb, ltb, leb, List, [], ◌∷◌, ◌++◌, length, get_or, set, refl, ◌∙◌, arith, length-set}
use Rattle.std.proofs.lemmas.Bool.Decides.{nat_tests}
use Rattle.program.specs.Basics.{any, flat_map, larger, limit}
use Rattle.program.specs.Syntax.{Stmt, skip, assign, store, input, check, seq, branch, loop}
use Rattle.program.specs.Semantics.{State, Evaluated, value, failed, nth_array, eval, eval_test, with_value, finished, fault, or_fault, first_input, take_input, run}
use Rattle.interval.specs.Interval.{Interval, interval, join_interval}
use Rattle.interval.specs.Arithmetic.{eval_result}
use Rattle.analysis.specs.Reach.{unreached, reached, analysis, alarms_at, if_reached, ReachedAnd}
use Rattle.analysis.specs.AbstractState.{Env, Abstract, nth_interval, within}
use Rattle.analysis.specs.Evaluation.{eval_interval}
use Rattle.analysis.specs.Assume.{assume, test_faults}
use Rattle.analysis.specs.Analyser.{assigned, stored, index_faults, index_in_range, analyse}
use Rattle.analysis.specs.Lawful.{TestTold, RunTold}
use Rattle.analysis.proofs.Relations.{Lies, All, Describes, Proper, ProperEnv, Well}
use Rattle.analysis.proofs.Lists.{all_set, any_left, any_right}
use Rattle.analysis.proofs.Arithmetic.{Fit}
use Rattle.analysis.proofs.AbstractState.{set_lies, array_length, store_lies, nth_proper}
use Rattle.analysis.proofs.Evaluation.{eval_fits, eval_proper}
use Rattle.analysis.proofs.Join.{join_proper}
use Rattle.analysis.proofs.Kept.{assume_well}
use Rattle.analysis.proofs.Assume.{assume_told}
use Rattle.analysis.proofs.Walk.{alarm_at}

-- a statement without parts; what may come in lies below 2^32
abbrev pub Simple : Stmt → Type 0
Simple skip = ⊥
Simple (assign p x e) = Unit {0}
Simple (store p r a e) = Unit {0}
Simple (input p x a b) = larger a b < limit
Simple (check p t) = Unit {0}
Simple (seq a b) = ⊥
Simple (branch p t a b) = ⊥
Simple (loop p t a) = ⊥

-- a variable gets what an expression comes to
assign_told : (ns : List ℕ) (s : State) (w : Env) (p x : ℕ) (is : List Interval) (ks : List ℕ) (r : Evaluated) → Describes ns s w → Fit (eval_result is ks) r →
    RunTold (Describes ns) (analysis (assigned w x is) (alarms_at p ks)) (or_fault p r (λ v. finished (with_value s x v)))
unfolding assigned or_fault
assign_told ns s w p x is ks (failed k) h f = alarm_at p k ks f
assign_told ns s w p x [] ks (value v) h f = absurd f
assign_told ns s w p x (i ∷ is) ks (value v) h f = (set_lies s.values w.values x v i h.0 f, h.1)

-- an element gets a value: if the index can be in range
stored_holds : (ns : List ℕ) (s : State) (w : Env) (r i v : ℕ) (d : Bool) (a b : Interval) (is vs : List Interval) → Describes ns s w → Lies v b → d ≡ true →
    ReachedAnd (Describes ns (record { values = s.values; arrays = set s.arrays r (set (nth_array s.arrays r) i v); inputs = s.inputs })) (stored w r (cond d (a ∷ is) is) (b ∷ vs))
unfolding stored
stored_holds ns s w r i v false a b is vs h k e = grind arith
stored_holds ns s w r i v true a b is vs h k e = (h.0, store_lies s.arrays ns w.arrays r i v b h.1 k)

-- an index out of range is told
index_told : (n i : ℕ) (a : Interval) (is vs : List Interval) (b : Interval) (ks : List ℕ) → n ≤ i → Lies i a → any (eqb 3) (ks ++ flat_map (λ u. index_faults n (a ∷ is)) (b ∷ vs)) ≡ true
index_told n i a is vs b ks l h =
    any_right (eqb 3) ks (index_faults n (a ∷ is) ++ flat_map (λ u. index_faults n (a ∷ is)) vs)
    (any_left (eqb 3) (index_faults n (a ∷ is)) (flat_map (λ u. index_faults n (a ∷ is)) vs) (any_left (eqb 3) (cond (ltb a.hi n) [] (3 ∷ [])) (index_faults n is) (grind (arith, nat_tests))))

-- an element of an array gets what an expression comes to
store_told : (ns : List ℕ) (s : State) (w : Env) (p r : ℕ) (is vs : List Interval) (ks js : List ℕ) (x y : Evaluated) → Describes ns s w → Fit (eval_result is ks) x → Fit (eval_result vs js) y →
    RunTold (Describes ns) (analysis (stored w r (index_in_range (get_or ns r 0) is) vs) (alarms_at p (ks ++ flat_map (λ u. js) is ++ flat_map (λ u. index_faults (get_or ns r 0) is) vs)))
    (or_fault p x (λ i. or_fault p y (λ v. cond (ltb i (length (nth_array s.arrays r)))
    (finished (record { values = s.values; arrays = set s.arrays r (set (nth_array s.arrays r) i v); inputs = s.inputs })) (fault p 3))))
unfolding or_fault
store_told ns s w p r is vs ks js (failed k) y h f g =
    alarm_at p k (ks ++ flat_map (λ u. js) is ++ flat_map (λ u. index_faults (get_or ns r 0) is) vs)
    (any_left (eqb k) (ks ++ flat_map (λ u. js) is) (flat_map (λ u. index_faults (get_or ns r 0) is) vs) (any_left (eqb k) ks (flat_map (λ u. js) is) f))
store_told ns s w p r [] vs ks js (value i) y h f g = absurd f
store_told ns s w p r (a ∷ is) vs ks js (value i) (failed k) h f g =
    alarm_at p k (ks ++ flat_map (λ u. js) (a ∷ is) ++ flat_map (λ u. index_faults (get_or ns r 0) (a ∷ is)) vs)
    (any_left (eqb k) (ks ++ flat_map (λ u. js) (a ∷ is)) (flat_map (λ u. index_faults (get_or ns r 0) (a ∷ is)) vs)
    (any_right (eqb k) ks (js ++ flat_map (λ u. js) is) (any_left (eqb k) js (flat_map (λ u. js) is) g)))
store_told ns s w p r (a ∷ is) [] ks js (value i) (value v) h f g = absurd g
store_told ns s w p r (a ∷ is) (b ∷ vs) ks js (value i) (value v) h f g = go (ltb i (length (nth_array s.arrays r))) refl
  where
    l : length (nth_array s.arrays r) ≡ get_or ns r 0
    l = array_length s.arrays ns w.arrays r h.1

    go : (c : Bool) → ltb i (length (nth_array s.arrays r)) ≡ c →
        RunTold (Describes ns) (analysis (stored w r (index_in_range (get_or ns r 0) (a ∷ is)) (b ∷ vs)) (alarms_at p (ks ++ flat_map (λ u. js) (a ∷ is) ++ flat_map (λ u. index_faults (get_or ns r 0) (a ∷ is)) (b ∷ vs))))
        (cond c (finished (record { values = s.values; arrays = set s.arrays r (set (nth_array s.arrays r) i v); inputs = s.inputs })) (fault p 3))
    go true e = stored_holds ns s w r i v (ltb a.lo (get_or ns r 0)) a b (index_in_range (get_or ns r 0) is) vs h g (grind (arith, nat_tests, l))
    go false e =
        alarm_at p 3 (ks ++ flat_map (λ u. js) (a ∷ is) ++ flat_map (λ u. index_faults (get_or ns r 0) (a ∷ is)) (b ∷ vs))
        (index_told (get_or ns r 0) i a is vs b (ks ++ flat_map (λ u. js) (a ∷ is)) (grind (arith, nat_tests, l)) f)

-- a variable gets what comes in
input_told : (ns : List ℕ) (s : State) (w : Env) (x a b : ℕ) → Describes ns s w →
    Describes ns (take_input s x a b) (record { values = set w.values x (interval a (larger a b)); arrays = w.arrays })
input_told ns s w x a b h =
    let n = first_input s.inputs in
    (set_lies s.values w.values x (cond (leb a n && leb n b) n a) (interval a (larger a b)) h.0 (grind (arith, nat_tests)), h.1)

-- a check that can fail is an alarm
check_told : (ns : List ℕ) (s : State) (w : Env) (p : ℕ) (y n : Abstract) (ks : List ℕ) (r : Evaluated) → Describes ns s w → TestTold (Describes ns s) y n ks r →
    RunTold (Describes ns) (analysis y (alarms_at p (ks ++ cond (within n unreached) [] (4 ∷ [])))) (or_fault p r (λ k. cond (eqb k 0) (fault p 4) (finished s)))
unfolding or_fault within
check_told ns s w p y n ks (failed k) h f = alarm_at p k (ks ++ cond (within n unreached) [] (4 ∷ [])) (any_left (eqb k) ks (cond (within n unreached) [] (4 ∷ [])) f)
check_told ns s w p y unreached ks (value zero) h f = absurd f
check_told ns s w p y (reached v) ks (value zero) h f = alarm_at p 4 (ks ++ 4 ∷ []) (any_right (eqb 4) ks (4 ∷ []) refl)
check_told ns s w p y n ks (value (suc zero)) h f = f
check_told ns s w p y n ks (value (suc (suc k))) h f = absurd f

-- every run of a statement without parts is told
pub simple_told : (ns ms : List ℕ) (n : ℕ) (d : Stmt) (m : ℕ) (s : State) (w : Env) → Simple d → Describes ns s w → RunTold (Describes ns) (analyse ns ms n d (reached w)) (run m d s)
unfolding analyse run if_reached
simple_told ns ms n skip m s w c h = absurd c
simple_told ns ms n (assign p x e) m s w c h = assign_told ns s w p x (eval_interval ns w e).intervals (eval_interval ns w e).faults (eval s e) h (eval_fits ns s w h e)
simple_told ns ms n (store p r a e) m s w c h =
    store_told ns s w p r (eval_interval ns w a).intervals (eval_interval ns w e).intervals (eval_interval ns w a).faults (eval_interval ns w e).faults (eval s a) (eval s e) h
    (eval_fits ns s w h a) (eval_fits ns s w h e)
simple_told ns ms n (input p x a b) m s w c h = input_told ns s w x a b h
simple_told ns ms n (check p t) m s w c h = check_told ns s w p (assume ns true t w) (assume ns false t w) (test_faults ns t w) (eval_test s t) h (assume_told ns s t w h)
simple_told ns ms n (seq a b) m s w c h = absurd c
simple_told ns ms n (branch p t a b) m s w c h = absurd c
simple_told ns ms n (loop p t a) m s w c h = absurd c

assigned_well : (v r : ℕ) (w : Env) (x : ℕ) (is : List Interval) → ProperEnv v r w → All Proper is → Well v r (assigned w x is)
unfolding assigned
assigned_well v r w x [] h k = tt
assigned_well v r w x (i ∷ is) h k = (length-set w.values x i ∙ h.0, h.1, all_set Proper w.values x i h.2 k.0, h.3)

stored_well : (v r : ℕ) (w : Env) (a : ℕ) (is vs : List Interval) → ProperEnv v r w → All Proper vs → Well v r (stored w a is vs)
unfolding stored
stored_well v r w a [] vs h k = tt
stored_well v r w a (i ∷ is) [] h k = tt
stored_well v r w a (i ∷ is) (u ∷ vs) h k =
    let j = join_interval (nth_interval w.arrays a) u in
    (h.0, length-set w.arrays a j ∙ h.1, h.2, all_set Proper w.arrays a j h.3 (join_proper (nth_interval w.arrays a) u (nth_proper w.arrays a h.3) k.0))

-- a statement without parts keeps what is known well formed
pub simple_well : (v r : ℕ) (ns ms : List ℕ) (n : ℕ) (d : Stmt) (w : Env) → Simple d → ProperEnv v r w → Well v r (analyse ns ms n d (reached w)).out
unfolding analyse if_reached
simple_well v r ns ms n skip w c h = absurd c
simple_well v r ns ms n (assign p x e) w c h = assigned_well v r w x (eval_interval ns w e).intervals h (eval_proper ns w h.2 h.3 e)
simple_well v r ns ms n (store p a i e) w c h =
    stored_well v r w a (index_in_range (get_or ns a 0) (eval_interval ns w i).intervals) (eval_interval ns w e).intervals h (eval_proper ns w h.2 h.3 e)
simple_well v r ns ms n (input p x a b) w c h =
    (length-set w.values x (interval a (larger a b)) ∙ h.0, h.1, all_set Proper w.values x (interval a (larger a b)) h.2 (grind (arith, nat_tests), c), h.3)
simple_well v r ns ms n (check p t) w c h = assume_well v r ns t true w h
simple_well v r ns ms n (seq a b) w c h = absurd c
simple_well v r ns ms n (branch p t a b) w c h = absurd c
simple_well v r ns ms n (loop p t a) w c h = absurd c
