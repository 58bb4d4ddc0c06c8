-- Arithmetic on intervals, with the faults that it may have. Assumes nothing: these are definitions.
use Rattle.std.specs.Prelude.{ℕ, ◌+◌, ◌-◌, ◌*◌, ◌/◌, cond, List, [], ◌∷◌, ◌++◌, ◌==◌, nat_le, nat_lt}
use Rattle.program.specs.Basics.{smaller, larger, limit}
use Rattle.interval.specs.Interval.{Interval, interval, top}

-- what an expression may come to, if anything, and the kinds of faults it may have
pub record EvalResult : Type 0 where
  pub intervals : List Interval
  pub faults : List ℕ

-- such a result
abbrev pub eval_result : List Interval → List ℕ → EvalResult
eval_result ss ks = record { intervals = ss; faults = ks }

-- from a to b as far as these are numbers; what lies above is a fault of kind 1
abbrev pub capped : ℕ → ℕ → EvalResult
capped a b = cond (nat_lt b limit) (eval_result (interval a b ∷ []) []) (cond (nat_lt a limit) (eval_result (interval a top ∷ []) (1 ∷ [])) (eval_result [] (1 ∷ [])))

-- differences; what lies below 0 is a fault of kind 1
abbrev pub difference : Interval → Interval → EvalResult
difference a b =
    cond (nat_le b.hi a.lo) (eval_result (interval (a.lo - b.hi) (a.hi - b.lo) ∷ []) [])
    (cond (nat_lt a.hi b.lo) (eval_result [] (1 ∷ [])) (eval_result (interval (a.lo - b.hi) (a.hi - b.lo) ∷ []) (1 ∷ [])))

-- quotients by what lies from c to d, none of it 0
abbrev pub quotient : Interval → ℕ → ℕ → Interval
quotient a c d = interval (a.lo / d) (a.hi / c)

-- remainders by what lies from c to d, none of it 0
abbrev pub remainder : Interval → ℕ → ℕ → Interval
remainder a c d = cond (nat_lt a.hi c) a (interval 0 (smaller a.hi (d - 1)))

-- by the part of b that is not 0; a fault of kind 2 if b can be 0
abbrev pub divided : (Interval → ℕ → ℕ → Interval) → Interval → Interval → EvalResult
divided f a b =
    cond (b.hi == 0) (eval_result [] (2 ∷ [])) (eval_result (f a (larger 1 b.lo) b.hi ∷ []) (cond (b.lo == 0) (2 ∷ []) []))

-- one operation on two intervals
abbrev pub interval_op : ℕ → Interval → Interval → EvalResult
interval_op k a b =
    cond (k == 0) (capped (a.lo + b.lo) (a.hi + b.hi)) (cond (k == 1) (difference a b) (cond (k == 2) (capped (a.lo * b.lo) (a.hi * b.hi))
    (cond (k == 3) (divided quotient a b) (divided remainder a b))))

-- a result with more faults in front
abbrev pub with_faults : List ℕ → EvalResult → EvalResult
with_faults ks w = eval_result w.intervals (ks ++ w.faults)

-- go on with two intervals, if both are there
unfoldable pub if_two : List Interval → List Interval → (Interval → Interval → EvalResult) → EvalResult
if_two [] bs f = eval_result [] []
if_two (a ∷ as₁) [] f = eval_result [] []
if_two (a ∷ as₁) (b ∷ bs) f = f a b

-- go on with an interval, if it is there
unfoldable pub if_one : List Interval → (Interval → EvalResult) → EvalResult
if_one [] f = eval_result [] []
if_one (a ∷ as₁) f = f a

-- an element of an array of n elements; a fault of kind 3 if the index can be too large
abbrev pub element_of : ℕ → Interval → Interval → EvalResult
element_of n r a = cond (nat_lt a.hi n) (eval_result (r ∷ []) []) (cond (nat_lt a.lo n) (eval_result (r ∷ []) (3 ∷ [])) (eval_result [] (3 ∷ [])))

-- an operation on what two expressions may come to; the second counts only if the first can come to a value
abbrev pub combined : ℕ → EvalResult → EvalResult → EvalResult
combined k v w =
    with_faults v.faults (if_one v.intervals (λ s. with_faults w.faults (if_two v.intervals w.intervals (interval_op k))))

-- an element of an array of n elements, by what the index may come to
abbrev pub element_by : ℕ → Interval → EvalResult → EvalResult
element_by n r w = with_faults w.faults (if_one w.intervals (element_of n r))
