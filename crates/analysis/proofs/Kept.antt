-- What tests keep: any property of environments that cutting a variable and joining keep. Sizes and proper intervals are such.
-- Rests on the definitions alone.
use Rattle.std.proofs.Common.{◌≡◌, ℕ, suc, ◌-◌, ◌≤◌, Bool, true, false, cond, not, ◌&&◌, eqb, ltb, leb, List, [], ◌∷◌, set, refl, ◌∙◌, arith, length-set}
use Rattle.std.proofs.lemmas.Bool.Decides.{nat_tests}
use Rattle.program.specs.Basics.{smaller, larger}
use Rattle.program.specs.Syntax.{Expr, num, var, bin, element, Test, less, equal, not_test, and_test, or_test}
use Rattle.interval.specs.Interval.{Interval, interval, join_interval, meet}
use Rattle.analysis.specs.Reach.{unreached, reached, bind, ReachedImplies}
use Rattle.analysis.specs.AbstractState.{Env, Abstract, nth_interval, zip_env, merge, join}
use Rattle.analysis.specs.Evaluation.{eval_interval}
use Rattle.analysis.specs.Assume.{cut_variable, cut, if_both, assume_less, assume_not_less, assume_equal, assume_unequal, assume}
use Rattle.analysis.proofs.Reach.{bind_implies}
use Rattle.analysis.proofs.Relations.{Proper, ProperEnv}
use Rattle.analysis.proofs.AbstractState.{nth_proper}
use Rattle.analysis.proofs.Lists.{all_set}
use Rattle.analysis.proofs.Order.{Sized}
use Rattle.analysis.proofs.Join.{zip_length, zip_proper, join_proper}

-- any property of environments that cutting a variable and joining keep, tests keep
module _ (Q : Env → Type 0)
    (cuts : (w : Env) (x : ℕ) (a : Interval) → a.lo ≤ a.hi → a.hi ≤ (nth_interval w.values x).hi → Q w → Q (record { values = set w.values x a; arrays = w.arrays }))
    (joins : (w v : Env) → Q w → Q v → Q (zip_env join_interval w v)) where
  cut_variable_keeps : (w : Env) (x : ℕ) (a : Interval) → a.hi ≤ (nth_interval w.values x).hi → Q w → ReachedImplies Q (cut_variable w x a)
  cut_variable_keeps w x a l q = go (leb a.lo a.hi) refl
    where
      go : (b : Bool) → leb a.lo a.hi ≡ b → ReachedImplies Q (cond b (reached (record { values = set w.values x a; arrays = w.arrays })) unreached)
      go true e = cuts w x a (grind (arith, nat_tests)) l q
      go false e = tt

  cut_keeps : (a : Expr) (w : Env) (i : Interval) → Q w → ReachedImplies Q (cut a w i)
  unfolding cut
  cut_keeps (num k) w i q = q
  cut_keeps (var x) w i q = cut_variable_keeps w x (meet (nth_interval w.values x) i) (grind (arith, nat_tests)) q
  cut_keeps (bin k a b) w i q = q
  cut_keeps (element r a) w i q = q

  cut_both_keeps : (c : Bool) (a b : Expr) (w : Env) (i j : Interval) → Q w → ReachedImplies Q (cond c (bind (cut a w i) (λ v. cut b v j)) unreached)
  cut_both_keeps false a b w i j q = tt
  cut_both_keeps true a b w i j q = bind_implies Q Q (cut a w i) (λ v. cut b v j) (λ v p. cut_keeps b v j p) (cut_keeps a w i q)

  join_keeps : (h g : Abstract) → ReachedImplies Q h → ReachedImplies Q g → ReachedImplies Q (join h g)
  unfolding merge
  join_keeps unreached g p q = q
  join_keeps (reached w) unreached p q = p
  join_keeps (reached w) (reached v) p q = joins w v p q

  if_both_keeps : (F : Interval → Interval → Abstract) → ((i j : Interval) → ReachedImplies Q (F i j)) → (as₁ bs : List Interval) → ReachedImplies Q (if_both as₁ bs F)
  unfolding if_both
  if_both_keeps F k [] bs = tt
  if_both_keeps F k (a ∷ as₁) [] = tt
  if_both_keeps F k (a ∷ as₁) (b ∷ bs) = k a b

  unequal_keeps : (c : Bool) (w : Env) → Q w → ReachedImplies Q (cond c unreached (reached w))
  unequal_keeps true w q = tt
  unequal_keeps false w q = q

  compare_keeps : (outcome : Bool) (h g : Abstract) → ReachedImplies Q h → ReachedImplies Q g → ReachedImplies Q (cond outcome h g)
  compare_keeps true h g p q = p
  compare_keeps false h g p q = q

  -- so of what is assumed
  pub assume_keeps : (ns : List ℕ) (t : Test) (outcome : Bool) (w : Env) → Q w → ReachedImplies Q (assume ns outcome t w)
  unfolding assume
  assume_keeps ns (less a b) outcome w q =
      if_both_keeps (λ s t. cond outcome (assume_less a b w s t) (assume_not_less a b w s t))
      (λ i j. compare_keeps outcome (assume_less a b w i j) (assume_not_less a b w i j)
      (cut_both_keeps (ltb i.lo j.hi) a b w (interval 0 (j.hi - 1)) (interval (suc i.lo) j.hi) q)
      (cut_both_keeps (leb j.lo i.hi) a b w (interval j.lo i.hi) (interval 0 i.hi) q))
      (eval_interval ns w a).intervals (eval_interval ns w b).intervals
  assume_keeps ns (equal a b) outcome w q =
      if_both_keeps (λ s t. cond outcome (assume_equal a b w s t) (assume_unequal a b w s t))
      (λ i j. compare_keeps outcome (assume_equal a b w i j) (assume_unequal a b w i j)
      (cut_both_keeps (leb (larger i.lo j.lo) (smaller i.hi j.hi)) a b w (meet i j) (meet i j) q)
      (unequal_keeps (eqb i.lo i.hi && (eqb j.lo j.hi && eqb i.lo j.lo)) w q))
      (eval_interval ns w a).intervals (eval_interval ns w b).intervals
  assume_keeps ns (not_test t) outcome w q = assume_keeps ns t (not outcome) w q
  assume_keeps ns (and_test t u) true w q =
      bind_implies Q Q (assume ns true t w) (λ v. assume ns true u v) (λ v p. assume_keeps ns u true v p) (assume_keeps ns t true w q)
  assume_keeps ns (and_test t u) false w q =
      join_keeps (assume ns false t w) (bind (assume ns true t w) (λ v. assume ns false u v)) (assume_keeps ns t false w q)
      (bind_implies Q Q (assume ns true t w) (λ v. assume ns false u v) (λ v p. assume_keeps ns u false v p) (assume_keeps ns t true w q))
  assume_keeps ns (or_test t u) true w q =
      join_keeps (assume ns true t w) (bind (assume ns false t w) (λ v. assume ns true u v)) (assume_keeps ns t true w q)
      (bind_implies Q Q (assume ns false t w) (λ v. assume ns true u v) (λ v p. assume_keeps ns u true v p) (assume_keeps ns t false w q))
  assume_keeps ns (or_test t u) false w q =
      bind_implies Q Q (assume ns false t w) (λ v. assume ns false u v) (λ v p. assume_keeps ns u false v p) (assume_keeps ns t false w q)

-- tests keep the number of variables and of arrays
pub assume_sized : (v r : ℕ) (ns : List ℕ) (t : Test) (outcome : Bool) (w : Env) → Sized v r w → ReachedImplies (Sized v r) (assume ns outcome t w)
assume_sized v r ns t outcome w q =
    assume_keeps (Sized v r) (λ u x a l h p. (length-set u.values x a ∙ p.0, p.1))
    (λ u y p q. (zip_length join_interval u.values y.values (omega arith) ∙ p.0, zip_length join_interval u.arrays y.arrays (omega arith) ∙ p.1))
    ns t outcome w q

-- tests keep environments well formed
pub assume_well : (v r : ℕ) (ns : List ℕ) (t : Test) (outcome : Bool) (w : Env) → ProperEnv v r w → ReachedImplies (ProperEnv v r) (assume ns outcome t w)
assume_well v r ns t outcome w q =
    assume_keeps (ProperEnv v r)
    (λ u x a l h p. let k = nth_proper u.values x p.2 in (length-set u.values x a ∙ p.0, p.1, all_set Proper u.values x a p.2 (omega arith, omega arith), p.3))
    (λ u y p q. (
      zip_length join_interval u.values y.values (omega arith) ∙ p.0,
      zip_length join_interval u.arrays y.arrays (omega arith) ∙ p.1,
      zip_proper join_interval join_proper u.values y.values p.2 q.2,
      zip_proper join_interval join_proper u.arrays y.arrays p.3 q.3,
    ))
    ns t outcome w q
