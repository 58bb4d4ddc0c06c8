-- What a program does, and where it goes wrong. Assumes nothing: these are definitions.
use Rattle.std.specs.Prelude.{Bool, true, false, ◌&&◌, cond, List, [], ◌∷◌, ℕ, zero, suc, ◌+◌, ◌*◌, ◌-◌, ◌/◌, ◌%◌, eqb, ltb, leb, length, get_or, drop, set, replicate}
use Rattle.program.specs.Basics.{map, limit}
use Rattle.program.specs.Syntax.{Expr, num, var, bin, element, Test, less, equal, not_test, and_test, or_test, Stmt, skip, assign, store, input, check, seq, branch, loop, Program}

-- the variables' values, the arrays' elements, the inputs that have not been read yet
pub record State : Type 0 where
  pub values : List ℕ
  pub arrays : List (List ℕ)
  pub inputs : List ℕ

-- an expression's value, or the kind of its fault: 1 a number below 0 or of 2^32 and more, 2 a quotient or remainder by 0, 3 no such element, 4 a check that fails
pub data Evaluated : Type 0 where
  value : ℕ → Evaluated
  failed : ℕ → Evaluated

-- a number that is one, or a fault of kind 1
abbrev pub in_range : ℕ → Evaluated
in_range n = cond (ltb n limit) (value n) (failed 1)

-- the k-th array; one past the end has no elements
unfoldable pub nth_array : List (List ℕ) → ℕ → List ℕ
nth_array [] k = []
nth_array (r ∷ rs) zero = r
nth_array (r ∷ rs) (suc k) = nth_array rs k

-- one operation on two values
abbrev pub apply_op : ℕ → ℕ → ℕ → Evaluated
apply_op k a b =
    cond (eqb k 0) (in_range (a + b)) (cond (eqb k 1) (cond (ltb a b) (failed 1) (value (a - b))) (cond (eqb k 2) (in_range (a * b))
    (cond (eqb b 0) (failed 2) (cond (eqb k 3) (value (a / b)) (value (a % b))))))

-- go on with the value, unless it failed
unfoldable pub bind_value : Evaluated → (ℕ → Evaluated) → Evaluated
bind_value (value n) f = f n
bind_value (failed k) f = failed k

-- what an expression comes to, worked out from the left
unfoldable pub eval : State → Expr → Evaluated
eval s (num n) = in_range n
eval s (var x) = value (get_or s.values x 0)
eval s (bin k a b) = bind_value (eval s a) (λ n. bind_value (eval s b) (λ m. apply_op k n m))
eval s (element r a) = bind_value (eval s a) (λ n. cond (ltb n (length (nth_array s.arrays r))) (value (get_or (nth_array s.arrays r) n 0)) (failed 3))

-- a test as a number
abbrev pub truth : Bool → ℕ
truth true = 1
truth false = 0

-- whether a test holds: 1 or 0. Both sides of a comparison are always worked out; the second of two tests only if it matters
unfoldable pub eval_test : State → Test → Evaluated
eval_test s (less a b) = bind_value (eval s a) (λ n. bind_value (eval s b) (λ m. value (truth (ltb n m))))
eval_test s (equal a b) = bind_value (eval s a) (λ n. bind_value (eval s b) (λ m. value (truth (eqb n m))))
eval_test s (not_test t) = bind_value (eval_test s t) (λ n. value (1 - n))
eval_test s (and_test t u) = bind_value (eval_test s t) (λ n. cond (eqb n 0) (value 0) (eval_test s u))
eval_test s (or_test t u) = bind_value (eval_test s t) (λ n. cond (eqb n 0) (eval_test s u) (value 1))

-- the state with one variable changed
abbrev pub with_value : State → ℕ → ℕ → State
with_value s x n = record { values = set s.values x n; arrays = s.arrays; inputs = s.inputs }

-- how a run went: to its end; to a fault of a kind at a statement; or it used up its rounds
pub data Outcome : Type 0 where
  finished : State → Outcome
  fault : ℕ → ℕ → Outcome
  out_of_rounds : Outcome

-- go on with the value, or stop with a fault at statement p
unfoldable pub or_fault : ℕ → Evaluated → (ℕ → Outcome) → Outcome
or_fault p (value n) f = f n
or_fault p (failed k) f = fault p k

-- go on from the state, unless the run has stopped
unfoldable pub and_then : Outcome → (State → Outcome) → Outcome
and_then (finished s) f = f s
and_then (fault p k) f = fault p k
and_then out_of_rounds f = out_of_rounds

-- the next input; 0 once there are none
abbrev pub first_input : List ℕ → ℕ
first_input [] = 0
first_input (n ∷ ns) = n

-- an input is read: the variable gets it if it is from a to b, and a otherwise
abbrev pub take_input : State → ℕ → ℕ → ℕ → State
take_input s x a b =
    let n : ℕ = first_input s.inputs in
    record { values = set s.values x (cond (leb a n && leb n b) n a); arrays = s.arrays; inputs = drop 1 s.inputs }

-- at most n rounds of a loop whose body is f
unfoldable pub run_loop : ℕ → ℕ → Test → (State → Outcome) → State → Outcome
run_loop zero p t f s = out_of_rounds
run_loop (suc n) p t f s = or_fault p (eval_test s t) (λ k. cond (eqb k 0) (finished s) (and_then (f s) (λ u. run_loop n p t f u)))

-- a statement from a state; each loop goes round at most n times
unfoldable pub run : ℕ → Stmt → State → Outcome
run n skip s = finished s
run n (assign p x e) s = or_fault p (eval s e) (λ v. finished (with_value s x v))
run n (store p r a e) s =
    or_fault p (eval s a) (λ i. or_fault p (eval s e) (λ v.
    cond (ltb i (length (nth_array s.arrays r))) (finished (record { values = s.values; arrays = set s.arrays r (set (nth_array s.arrays r) i v); inputs = s.inputs })) (fault p 3)))
run n (input p x a b) s = finished (take_input s x a b)
run n (check p t) s = or_fault p (eval_test s t) (λ k. cond (eqb k 0) (fault p 4) (finished s))
run n (seq a b) s = and_then (run n a s) (λ u. run n b u)
run n (branch p t a b) s = or_fault p (eval_test s t) (λ k. cond (eqb k 0) (run n b s) (run n a s))
run n (loop p t a) s = run_loop n p t (λ u. run n a u) s

-- all variables and elements are 0
abbrev pub initial : Program → List ℕ → State
initial p inputs = record { values = replicate p.vars 0; arrays = map (λ n. replicate n 0) p.arrays; inputs = inputs }

-- a whole run with these inputs
abbrev pub run_program : ℕ → Program → List ℕ → Outcome
run_program n p inputs = run n p.body (initial p inputs)
