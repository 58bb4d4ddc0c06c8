-- Evaluation on intervals is sound: a value lies in its interval, a fault is among the faults; and it yields proper intervals.
-- Rests on the soundness of arithmetic and of look-ups.
use Rattle.std.proofs.Common.{◌≡◌, ℕ, ◌<◌, true, cond, eqb, ltb, List, [], ◌∷◌, length, get_or, subst, arith}
use Rattle.std.proofs.lemmas.Bool.Decides.{nat_tests}
use Rattle.std.proofs.lemmas.Bool.{or_left}
use Rattle.program.specs.Basics.{any}
use Rattle.program.specs.Syntax.{Expr, num, var, bin, element}
use Rattle.program.specs.Semantics.{State, Evaluated, value, failed, apply_op, nth_array, bind_value, eval}
use Rattle.interval.specs.Interval.{Interval, lies_in}
use Rattle.interval.specs.Arithmetic.{EvalResult, eval_result, interval_op}
use Rattle.analysis.specs.AbstractState.{Env, nth_interval}
use Rattle.interval.specs.Arithmetic.{with_faults, if_one, if_two, element_of}
use Rattle.analysis.specs.Evaluation.{eval_interval}
use Rattle.analysis.specs.Statements.{EvalSound}
use Rattle.analysis.proofs.Relations.{Lies, All, Describes, Proper, lies_to_test, describes_from_test}
use Rattle.analysis.proofs.Lists.{any_left, any_right}
use Rattle.analysis.proofs.Arithmetic.{InFirst, Fit, capped_fits, op_fits, capped_proper, op_proper}
use Rattle.analysis.proofs.AbstractState.{nth_lies, array_length, element_lies, nth_proper}

-- more faults in front do no harm
more_faults_fit : (ks : List ℕ) (r : EvalResult) (x : Evaluated) → Fit r x → Fit (with_faults ks r) x
more_faults_fit ks r (value v) f = f
more_faults_fit ks r (failed k) f = any_right (eqb k) ks r.faults f

-- an operation on two results
bin_fits : (k : ℕ) (as₁ bs : List Interval) (ks js : List ℕ) (x y : Evaluated) → Fit (eval_result as₁ ks) x → Fit (eval_result bs js) y →
    Fit (with_faults ks (if_one as₁ (λ s. with_faults js (if_two as₁ bs (interval_op k))))) (bind_value x (λ n. bind_value y (λ m. apply_op k n m)))
unfolding bind_value if_one if_two
bin_fits k as₁ bs ks js (failed n) y h g = any_left (eqb n) ks _ h
bin_fits k [] bs ks js (value n) y h g = absurd h
bin_fits k (a ∷ as₁) bs ks js (value n) (failed m) h g = any_right (eqb m) ks _ (any_left (eqb m) js _ g)
bin_fits k (a ∷ as₁) [] ks js (value n) (value m) h g = absurd g
bin_fits k (a ∷ as₁) (b ∷ bs) ks js (value n) (value m) h g =
    more_faults_fit ks (with_faults js (interval_op k a b)) (apply_op k n m) (more_faults_fit js (interval_op k a b) (apply_op k n m) (op_fits k a b n m h g))

-- an element of an array of n elements, all of which lie in r
element_of_fits : (n : ℕ) (r a : Interval) (vs : List ℕ) (i : ℕ) → length vs ≡ n → (i < length vs → Lies (get_or vs i 0) r) → Lies i a →
    Fit (element_of n r a) (cond (ltb i (length vs)) (value (get_or vs i 0)) (failed 3))
element_of_fits n r a vs i e f l = grind (arith, nat_tests)

-- the same where the index is a result
element_fits : (n : ℕ) (r : Interval) (as₁ : List Interval) (ks : List ℕ) (vs : List ℕ) (x : Evaluated) → length vs ≡ n → ((i : ℕ) → i < length vs → Lies (get_or vs i 0) r) → Fit (eval_result as₁ ks) x →
    Fit (with_faults ks (if_one as₁ (element_of n r))) (bind_value x (λ i. cond (ltb i (length vs)) (value (get_or vs i 0)) (failed 3)))
unfolding bind_value if_one
element_fits n r as₁ ks vs (failed k) e f h = any_left (eqb k) ks _ h
element_fits n r [] ks vs (value i) e f h = absurd h
element_fits n r (a ∷ as₁) ks vs (value i) e f h =
    more_faults_fit ks (element_of n r a) (cond (ltb i (length vs)) (value (get_or vs i 0)) (failed 3)) (element_of_fits n r a vs i e (f i) h)

-- what an expression comes to fits its result on intervals
pub eval_fits : (ns : List ℕ) (s : State) (w : Env) → Describes ns s w → (e : Expr) → Fit (eval_interval ns w e) (eval s e)
unfolding eval eval_interval
eval_fits ns s w h (num n) = capped_fits n n n (omega arith) (omega arith)
eval_fits ns s w h (var x) = nth_lies s.values w.values x h.0
eval_fits ns s w h (bin k a b) =
    bin_fits k (eval_interval ns w a).intervals (eval_interval ns w b).intervals (eval_interval ns w a).faults (eval_interval ns w b).faults (eval s a) (eval s b)
    (eval_fits ns s w h a) (eval_fits ns s w h b)
eval_fits ns s w h (element r a) =
    element_fits (get_or ns r 0) (nth_interval w.arrays r) (eval_interval ns w a).intervals (eval_interval ns w a).faults (nth_array s.arrays r) (eval s a)
    (array_length s.arrays ns w.arrays r h.1) (λ i. element_lies s.arrays ns w.arrays r i h.1) (eval_fits ns s w h a)

-- what lies in the first interval lies in one of them
first_any : (v : ℕ) (ss : List Interval) → InFirst v ss → any (lies_in v) ss ≡ true
first_any v [] h = absurd h
first_any v (a ∷ ss) h = or_left (lies_in v a) (any (lies_in v) ss) (lies_to_test v a h)

pub eval_sound : EvalSound
unfolding EvalSound
eval_sound ns s w e d valid =
    let h = eval_fits ns s w (describes_from_test ns s w d) e in (
      λ v q. first_any v (eval_interval ns w e).intervals (subst (Fit (eval_interval ns w e)) q h),
      λ k q. subst (Fit (eval_interval ns w e)) q h,
    )

bin_proper : (k : ℕ) (as₁ bs : List Interval) (ks js : List ℕ) → All Proper as₁ → All Proper bs →
    All Proper (with_faults ks (if_one as₁ (λ s. with_faults js (if_two as₁ bs (interval_op k))))).intervals
unfolding if_one if_two
bin_proper k [] bs ks js g h = tt
bin_proper k (a ∷ as₁) [] ks js g h = tt
bin_proper k (a ∷ as₁) (b ∷ bs) ks js g h = op_proper k a b g.0 h.0

element_of_proper : (n : ℕ) (r a : Interval) → Proper r → All Proper (element_of n r a).intervals
element_of_proper n r a p = grind (arith, nat_tests)

element_proper : (n : ℕ) (r : Interval) (as₁ : List Interval) (ks : List ℕ) → Proper r → All Proper (with_faults ks (if_one as₁ (element_of n r))).intervals
unfolding if_one
element_proper n r [] ks p = tt
element_proper n r (a ∷ as₁) ks p = element_of_proper n r a p

-- an expression's intervals are proper if those of the environment are
pub eval_proper : (ns : List ℕ) (w : Env) → All Proper w.values → All Proper w.arrays → (e : Expr) → All Proper (eval_interval ns w e).intervals
unfolding eval_interval
eval_proper ns w g h (num n) = capped_proper n n (omega arith)
eval_proper ns w g h (var x) = (nth_proper w.values x g, tt)
eval_proper ns w g h (bin k a b) =
    bin_proper k (eval_interval ns w a).intervals (eval_interval ns w b).intervals (eval_interval ns w a).faults (eval_interval ns w b).faults (eval_proper ns w g h a) (eval_proper ns w g h b)
eval_proper ns w g h (element r a) =
    element_proper (get_or ns r 0) (nth_interval w.arrays r) (eval_interval ns w a).intervals (eval_interval ns w a).faults (nth_proper w.arrays r h)
