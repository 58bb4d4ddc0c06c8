-- What a test says, whether it holds or not, and what may go wrong in it. Assumes nothing: these are definitions.
use Rattle.std.specs.Prelude.{ℕ, suc, ◌-◌, Bool, true, false, cond, not, ◌&&◌, List, [], ◌∷◌, ◌++◌, ◌==◌, nat_le, nat_lt, slice_set}
use Rattle.program.specs.Basics.{flat_map, smaller, larger}
use Rattle.program.specs.Syntax.{Expr, num, var, bin, element, Test, less, equal, not_test, and_test, or_test}
use Rattle.interval.specs.Interval.{Interval, interval, meet}
use Rattle.analysis.specs.Reach.{unreached, reached, bind, faults_in}
use Rattle.analysis.specs.AbstractState.{Env, Abstract, nth_interval, join}
use Rattle.analysis.specs.Evaluation.{eval_interval}

-- a variable gets this interval; nothing comes here if it is empty
abbrev pub cut_variable : Env → ℕ → Interval → Abstract
cut_variable w x s =
    cond (nat_le s.lo s.hi) (reached (record { values = slice_set w.values x s; arrays = w.arrays })) unreached

-- if the expression is a variable, its interval is cut to s
unfoldable pub cut : Expr → Env → Interval → Abstract
cut (num n) w s = reached w
cut (var x) w s = cut_variable w x (meet (nth_interval w.values x) s)
cut (bin k a b) w s = reached w
cut (element r a) w s = reached w

-- go on with two intervals, if both are there
unfoldable pub if_both : List Interval → List Interval → (Interval → Interval → Abstract) → Abstract
if_both [] bs f = unreached
if_both (a ∷ as₁) [] f = unreached
if_both (a ∷ as₁) (b ∷ bs) f = f a b

-- a < b holds
abbrev pub assume_less : Expr → Expr → Env → Interval → Interval → Abstract
assume_less a b w s t =
    cond (nat_lt s.lo t.hi) (bind (cut a w (interval 0 (t.hi - 1))) (λ v. cut b v (interval (suc s.lo) t.hi))) unreached

-- a < b does not hold
abbrev pub assume_not_less : Expr → Expr → Env → Interval → Interval → Abstract
assume_not_less a b w s t =
    cond (nat_le t.lo s.hi) (bind (cut a w (interval t.lo s.hi)) (λ v. cut b v (interval 0 s.hi))) unreached

-- a = b holds
abbrev pub assume_equal : Expr → Expr → Env → Interval → Interval → Abstract
assume_equal a b w s t =
    cond (nat_le (larger s.lo t.lo) (smaller s.hi t.hi)) (bind (cut a w (meet s t)) (λ v. cut b v (meet s t))) unreached

-- a = b does not hold: impossible only if both are one and the same number
abbrev pub assume_unequal : Expr → Expr → Env → Interval → Interval → Abstract
assume_unequal a b w s t = cond (s.lo == s.hi && (t.lo == t.hi && s.lo == t.lo)) unreached (reached w)

-- what is known if the test has this outcome
unfoldable pub assume : List ℕ → Bool → Test → Env → Abstract
assume ns outcome (less a b) w =
    if_both (eval_interval ns w a).intervals (eval_interval ns w b).intervals (λ s t. cond outcome (assume_less a b w s t) (assume_not_less a b w s t))
assume ns outcome (equal a b) w =
    if_both (eval_interval ns w a).intervals (eval_interval ns w b).intervals (λ s t. cond outcome (assume_equal a b w s t) (assume_unequal a b w s t))
assume ns outcome (not_test t) w = assume ns (not outcome) t w
assume ns outcome (and_test t u) w =
    cond outcome (bind (assume ns true t w) (λ v. assume ns true u v)) (join (assume ns false t w) (bind (assume ns true t w) (λ v. assume ns false u v)))
assume ns outcome (or_test t u) w =
    cond outcome (join (assume ns true t w) (bind (assume ns false t w) (λ v. assume ns true u v))) (bind (assume ns false t w) (λ v. assume ns false u v))

-- faults of two expressions, the second worked out only if the first can come to a value
abbrev pub pair_faults : List ℕ → Env → Expr → Expr → List ℕ
pair_faults ns w a b = (eval_interval ns w a).faults ++ flat_map (λ s. (eval_interval ns w b).faults) (eval_interval ns w a).intervals

-- the kinds of faults that working a test out may have
unfoldable pub test_faults : List ℕ → Test → Env → List ℕ
test_faults ns (less a b) w = pair_faults ns w a b
test_faults ns (equal a b) w = pair_faults ns w a b
test_faults ns (not_test t) w = test_faults ns t w
test_faults ns (and_test t u) w = test_faults ns t w ++ faults_in (assume ns true t w) (λ v. test_faults ns u v)
test_faults ns (or_test t u) w = test_faults ns t w ++ faults_in (assume ns false t w) (λ v. test_faults ns u v)
