-- Every alarm of a valid program has a slot of the table: its kind is from 1 to 4, and its statement's number from 1 to 2,730.
use Rattle.std.proofs.Common.{◌≡◌, ℕ, ◌+◌, ◌*◌, ◌≤◌, Bool, true, false, cond, eqb, List, [], ◌∷◌, ◌++◌, get_or, arith}
use Rattle.std.proofs.lemmas.Bool.Decides.{nat_tests}
use Rattle.std.specs.List as Lists
use Rattle.program.specs.Basics.{flat_map}
use Rattle.program.specs.Syntax.{Expr, num, var, bin, element, Test, less, equal, not_test, and_test, or_test, Stmt, skip, assign, store, input, check, seq, branch, loop, Program}
use Rattle.program.specs.Validity.{valid_program, stmt_numbers}
use Rattle.interval.specs.Interval.{Interval}
use Rattle.interval.specs.Arithmetic.{EvalResult, capped, difference, quotient, remainder, divided, interval_op}
use Rattle.analysis.specs.Reach.{Reach, unreached, reached, bind, faults_in, Analysis, alarms_at, if_reached}
use Rattle.analysis.specs.AbstractState.{Env, Abstract, nth_interval, join, within}
use Rattle.interval.specs.Arithmetic.{if_one, if_two, element_of}
use Rattle.analysis.specs.Evaluation.{eval_interval}
use Rattle.analysis.specs.Assume.{assume, pair_faults, test_faults}
use Rattle.analysis.specs.Iteration.{iterate}
use Rattle.analysis.specs.Analyser.{index_faults, analyse}
use Rattle.analysis.specs.Thresholds.{thresholds}
use Rattle.analysis.specs.Whole.{round_limit, initial_abstract, analyse_program}
use Rattle.analysis.proofs.Relations.{All}
use Rattle.encoding.proofs.Valid.{numbers_bounded}
use Rattle.model.specs.Memory.{slots}
use Rattle.model.proofs.Order.{InTable}

-- a kind of fault
abbrev Kind : ℕ → Type 0
Kind k = (1 ≤ k) × (k ≤ 4)

-- a statement's number
abbrev pub Numbered : ℕ → ℕ → Type 0
Numbered n p = (1 ≤ p) × (p ≤ n)

pub all_append : {A : Type 0} (P : A → Type 0) (xs ys : List A) → All P xs → All P ys → All P (xs ++ ys)
all_append P [] ys h g = g
all_append P (x ∷ xs) ys h g = (h.0, all_append P xs ys h.1 g)

pub all_left : {A : Type 0} (P : A → Type 0) (xs ys : List A) → All P (xs ++ ys) → All P xs
all_left P [] ys h = tt
all_left P (x ∷ xs) ys h = (h.0, all_left P xs ys h.1)

pub all_right : {A : Type 0} (P : A → Type 0) (xs ys : List A) → All P (xs ++ ys) → All P ys
all_right P [] ys h = h
all_right P (x ∷ xs) ys h = all_right P xs ys h.1

all_flat : {A B : Type 0} (P : B → Type 0) (f : A → List B) (xs : List A) → ((x : A) → All P (f x)) → All P (flat_map f xs)
all_flat P f [] h = tt
all_flat P f (x ∷ xs) h = all_append P (f x) (flat_map f xs) (h x) (all_flat P f xs h)

-- a result whose faults are kinds
abbrev Kinds : EvalResult → Type 0
Kinds w = All Kind w.faults

either_kinds : (b : Bool) (x y : EvalResult) → Kinds x → Kinds y → Kinds (cond b x y)
either_kinds true x y h g = h
either_kinds false x y h g = g

capped_kinds : (a b : ℕ) → Kinds (capped a b)
capped_kinds a b = grind (arith, nat_tests)

difference_kinds : (a b : Interval) → Kinds (difference a b)
difference_kinds a b = grind (arith, nat_tests)

divided_kinds : (f : Interval → ℕ → ℕ → Interval) (a b : Interval) → Kinds (divided f a b)
divided_kinds f a b = grind (arith, nat_tests)

element_kinds : (n : ℕ) (r a : Interval) → Kinds (element_of n r a)
element_kinds n r a = grind (arith, nat_tests)

op_kinds : (k : ℕ) (a b : Interval) → Kinds (interval_op k a b)
op_kinds k a b =
    either_kinds (eqb k 0) _ _ (capped_kinds (a.lo + b.lo) (a.hi + b.hi)) (either_kinds (eqb k 1) _ _ (difference_kinds a b) (either_kinds (eqb k 2) _ _ (capped_kinds (a.lo * b.lo) (a.hi * b.hi))
    (either_kinds (eqb k 3) _ _ (divided_kinds quotient a b) (divided_kinds remainder a b))))

one_kinds : (ss : List Interval) (f : Interval → EvalResult) → ((s : Interval) → Kinds (f s)) → Kinds (if_one ss f)
unfolding if_one
one_kinds [] f h = tt
one_kinds (s ∷ ss) f h = h s

two_kinds : (ss ts : List Interval) (f : Interval → Interval → EvalResult) → ((s t : Interval) → Kinds (f s t)) → Kinds (if_two ss ts f)
unfolding if_two
two_kinds [] ts f h = tt
two_kinds (s ∷ ss) [] f h = tt
two_kinds (s ∷ ss) (t ∷ ts) f h = h s t

eval_kinds : (ns : List ℕ) (w : Env) (e : Expr) → Kinds (eval_interval ns w e)
unfolding eval_interval
eval_kinds ns w (num n) = capped_kinds n n
eval_kinds ns w (var x) = tt
eval_kinds ns w (bin k a b) =
    all_append Kind _ _ (eval_kinds ns w a) (one_kinds (eval_interval ns w a).intervals _ (λ s. all_append Kind _ _ (eval_kinds ns w b)
    (two_kinds (eval_interval ns w a).intervals (eval_interval ns w b).intervals (interval_op k) (op_kinds k))))
eval_kinds ns w (element r a) = all_append Kind _ _ (eval_kinds ns w a) (one_kinds (eval_interval ns w a).intervals _ (element_kinds (get_or ns r 0) (nth_interval w.arrays r)))

pair_kinds : (ns : List ℕ) (w : Env) (a b : Expr) → All Kind (pair_faults ns w a b)
pair_kinds ns w a b = all_append Kind _ _ (eval_kinds ns w a) (all_flat Kind _ (eval_interval ns w a).intervals (λ s. eval_kinds ns w b))

in_kinds : {K : Type 0} (h : Reach K) (f : K → List ℕ) → ((w : K) → All Kind (f w)) → All Kind (faults_in h f)
unfolding faults_in
in_kinds unreached f g = tt
in_kinds (reached w) f g = g w

test_kinds : (ns : List ℕ) (t : Test) (w : Env) → All Kind (test_faults ns t w)
unfolding test_faults
test_kinds ns (less a b) w = pair_kinds ns w a b
test_kinds ns (equal a b) w = pair_kinds ns w a b
test_kinds ns (not_test t) w = test_kinds ns t w
test_kinds ns (and_test t u) w = all_append Kind _ _ (test_kinds ns t w) (in_kinds (assume ns true t w) _ (λ v. test_kinds ns u v))
test_kinds ns (or_test t u) w = all_append Kind _ _ (test_kinds ns t w) (in_kinds (assume ns false t w) _ (λ v. test_kinds ns u v))

-- alarms of one statement have slots
at_in_table : (n p : ℕ) (ks : List ℕ) → Numbered n p → All Kind ks → All (InTable (4 * n)) (alarms_at p ks)
at_in_table n p [] h g = tt
at_in_table n p (k ∷ ks) h g = ((h.0, g.0.0, g.0.1, omega arith), at_in_table n p ks h g.1)

reached_in_table : {K L : Type 0} (n : ℕ) (h : Reach K) (f : K → Analysis L) → ((w : K) → All (InTable n) (f w).alarms) → All (InTable n) (if_reached h f).alarms
unfolding if_reached
reached_in_table n unreached f g = tt
reached_in_table n (reached w) f g = g w

-- whether the check can fail
check_kinds : (b : Bool) → All Kind (cond b [] (4 ∷ []))
check_kinds true = tt
check_kinds false = ((omega arith, omega arith), tt)

index_kinds : (n : ℕ) (is : List Interval) → All Kind (index_faults n is)
index_kinds n is = all_flat Kind _ is (λ i. grind (arith, nat_tests))

-- alarms of a statement whose numbers are from 1 to n have one of 4 n slots
analyse_in_table : (n : ℕ) (ns ms : List ℕ) (r : ℕ) (d : Stmt) (h : Abstract) → All (Numbered n) (stmt_numbers d) → All (InTable (4 * n)) (analyse ns ms r d h).alarms
unfolding analyse stmt_numbers
analyse_in_table n ns ms r skip h g = tt
analyse_in_table n ns ms r (assign p x e) h g = reached_in_table (4 * n) h _ (λ w. at_in_table n p (eval_interval ns w e).faults g.0 (eval_kinds ns w e))
analyse_in_table n ns ms r (store p s a e) h g =
    reached_in_table (4 * n) h _ (λ w. at_in_table n p _ g.0
    (all_append Kind _ _ (all_append Kind _ _ (eval_kinds ns w a) (all_flat Kind _ (eval_interval ns w a).intervals (λ v. eval_kinds ns w e)))
    (all_flat Kind _ (eval_interval ns w e).intervals (λ v. index_kinds (get_or ns s 0) (eval_interval ns w a).intervals))))
analyse_in_table n ns ms r (input p x a b) h g = reached_in_table (4 * n) h _ (λ w. tt)
analyse_in_table n ns ms r (check p t) h g = reached_in_table (4 * n) h _ (λ w. at_in_table n p _ g.0 (all_append Kind _ _ (test_kinds ns t w) (check_kinds (within (assume ns false t w) unreached))))
analyse_in_table n ns ms r (seq a b) h g =
    all_append (InTable (4 * n)) _ _ (analyse_in_table n ns ms r a h (all_left (Numbered n) (stmt_numbers a) (stmt_numbers b) g))
    (analyse_in_table n ns ms r b (analyse ns ms r a h).out (all_right (Numbered n) (stmt_numbers a) (stmt_numbers b) g))
analyse_in_table n ns ms r (branch p t a b) h g =
    reached_in_table (4 * n) h _ (λ w. all_append (InTable (4 * n)) _ _ (at_in_table n p _ g.0 (test_kinds ns t w))
    (all_append (InTable (4 * n)) _ _ (analyse_in_table n ns ms r a (assume ns true t w) (all_left (Numbered n) (stmt_numbers a) (stmt_numbers b) g.1))
    (analyse_in_table n ns ms r b (assume ns false t w) (all_right (Numbered n) (stmt_numbers a) (stmt_numbers b) g.1))))
analyse_in_table n ns ms r (loop p t a) h g =
    reached_in_table (4 * n) (iterate ms 4 r (λ v. join h (bind v (λ w. (analyse ns ms r a (assume ns true t w)).out))) h) _
    (λ w. all_append (InTable (4 * n)) _ _ (at_in_table n p _ g.0 (test_kinds ns t w)) (analyse_in_table n ns ms r a (assume ns true t w) g.1))

-- the library's form of it
all_numbered : (n : ℕ) (ps : List ℕ) → Lists.AllByRecursion (Numbered n) ps → All (Numbered n) ps
all_numbered n [] h = tt
all_numbered n (p ∷ ps) h = (h.0, all_numbered n ps h.1)

-- all alarms of a valid program have slots
pub valid_in_table : (p : Program) → valid_program p ≡ true → All (InTable slots) (analyse_program p).alarms
valid_in_table p h = analyse_in_table 2730 p.arrays (thresholds p) (round_limit p) p.body (initial_abstract p) (all_numbered 2730 (stmt_numbers p.body) (numbers_bounded p h))
