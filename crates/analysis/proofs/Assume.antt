-- Tests are sound, both ways at once: what is assumed of a test's outcome holds of the state, and a fault is among the faults.
-- Rests on evaluation and joins; sizes come from the state.
use Rattle.std.proofs.Common.{◌≡◌, ℕ, zero, suc, ◌-◌, Bool, true, false, cond, ◌&&◌, eqb, ltb, leb, List, [], ◌∷◌, ◌++◌, length, get_or, set, refl, subst, arith}
use Rattle.std.proofs.lemmas.Bool.Decides.{nat_tests}
use Rattle.program.specs.Basics.{any, flat_map, smaller, larger}
use Rattle.program.specs.Syntax.{Expr, num, var, bin, element, Test, less, equal, not_test, and_test, or_test}
use Rattle.program.specs.Semantics.{State, Evaluated, value, failed, bind_value, eval, truth, eval_test}
use Rattle.interval.specs.Interval.{Interval, interval, meet}
use Rattle.interval.specs.Arithmetic.{eval_result}
use Rattle.analysis.specs.Reach.{unreached, reached, bind, faults_in, ReachedAnd}
use Rattle.analysis.specs.AbstractState.{Env, Abstract, nth_interval, join}
use Rattle.analysis.specs.Evaluation.{eval_interval}
use Rattle.analysis.specs.Assume.{cut_variable, cut, if_both, assume_less, assume_not_less, assume_equal, assume_unequal, assume, test_faults}
use Rattle.analysis.specs.Statements.{AssumeSound, TestSound}
use Rattle.analysis.specs.Lawful.{TestTold}
use Rattle.analysis.proofs.Reach.{bind_and, bind_implies}
use Rattle.analysis.proofs.Relations.{Lies, Describes, Covers, describes_from_test, covers_to_test}
use Rattle.analysis.proofs.Lists.{any_left, any_right}
use Rattle.analysis.proofs.Arithmetic.{Fit}
use Rattle.analysis.proofs.AbstractState.{nth_lies, cut_lies, meet_lies}
use Rattle.analysis.proofs.Evaluation.{eval_fits}
use Rattle.analysis.proofs.Order.{SameSize, Sized, sized_same, covers_below}
use Rattle.analysis.proofs.Join.{join_above_left, join_above_right}
use Rattle.analysis.proofs.Kept.{assume_sized}

cut_variable_sound : (ns : List ℕ) (s : State) (w : Env) (x : ℕ) (a : Interval) → Describes ns s w → Lies (get_or s.values x 0) a → Covers ns s (cut_variable w x a)
cut_variable_sound ns s w x a h l = go (leb a.lo a.hi) (grind (arith, nat_tests))
  where
    go : (b : Bool) → b ≡ true → Covers ns s (cond b (reached (record { values = set w.values x a; arrays = w.arrays })) unreached)
    go true e = (cut_lies s.values w.values x a h.0 l, h.1)
    go false e = grind arith

-- an expression is cut to an interval in which its value lies
cut_sound : (ns : List ℕ) (s : State) (w : Env) (a : Expr) (n : ℕ) (i : Interval) → Describes ns s w → eval s a ≡ value n → Lies n i → Covers ns s (cut a w i)
unfolding cut eval
cut_sound ns s w (num k) n i h e l = h
cut_sound ns s w (var x) n i h e l =
    let q : get_or s.values x 0 ≡ n = cc in
    cut_variable_sound ns s w x (meet (nth_interval w.values x) i) h
    (meet_lies (nth_interval w.values x) i (get_or s.values x 0) (nth_lies s.values w.values x h.0) (omega arith, omega arith))
cut_sound ns s w (bin k a b) n i h e l = h
cut_sound ns s w (element r a) n i h e l = h

-- two cuts, one after the other, where a test lets them be
cut_both : (ns : List ℕ) (s : State) (w : Env) (c : Bool) (a b : Expr) (n m : ℕ) (i j : Interval) → Describes ns s w → eval s a ≡ value n → eval s b ≡ value m →
    c ≡ true → Lies n i → Lies m j → Covers ns s (cond c (bind (cut a w i) (λ v. cut b v j)) unreached)
cut_both ns s w false a b n m i j h e f q l k = grind arith
cut_both ns s w true a b n m i j h e f q l k =
    bind_and (Describes ns s) (Describes ns s) (cut a w i) (λ v. cut b v j) (λ v d. cut_sound ns s v b m j d f k) (cut_sound ns s w a n i h e l)

module _ (ns : List ℕ) (s : State) (w : Env) (h : Describes ns s w) (a b : Expr) (i j : Interval) (n m : ℕ) (e : eval s a ≡ value n) (f : eval s b ≡ value m) (l : Lies n i) (k : Lies m j) where
  less_sound : ltb n m ≡ true → Covers ns s (assume_less a b w i j)
  less_sound c = cut_both ns s w (ltb i.lo j.hi) a b n m (interval 0 (j.hi - 1)) (interval (suc i.lo) j.hi) h e f (grind (arith, nat_tests)) (grind (arith, nat_tests)) (grind (arith, nat_tests))

  not_less_sound : ltb n m ≡ false → Covers ns s (assume_not_less a b w i j)
  not_less_sound c = cut_both ns s w (leb j.lo i.hi) a b n m (interval j.lo i.hi) (interval 0 i.hi) h e f (grind (arith, nat_tests)) (grind (arith, nat_tests)) (grind (arith, nat_tests))

  equal_sound : eqb n m ≡ true → Covers ns s (assume_equal a b w i j)
  equal_sound c =
      cut_both ns s w (leb (larger i.lo j.lo) (smaller i.hi j.hi)) a b n m (meet i j) (meet i j) h e f (grind (arith, nat_tests)) (grind (arith, nat_tests)) (grind (arith, nat_tests))

  unequal_sound : eqb n m ≡ false → Covers ns s (assume_unequal a b w i j)
  unequal_sound c = go (eqb i.lo i.hi && (eqb j.lo j.hi && eqb i.lo j.lo)) (grind (arith, nat_tests))
    where
      go : (b : Bool) → b ≡ false → Covers ns s (cond b unreached (reached w))
      go true q = grind arith
      go false q = h

-- a comparison, from what its sides come to
compare_told : (P : Env → Type 0) (c : ℕ → ℕ → Bool) (F G : Interval → Interval → Abstract) (as₁ bs : List Interval) (ks js : List ℕ) (x y : Evaluated) →
    Fit (eval_result as₁ ks) x → Fit (eval_result bs js) y →
    ((a b : Interval) (n m : ℕ) → x ≡ value n → y ≡ value m → Lies n a → Lies m b → c n m ≡ true → ReachedAnd P (F a b)) →
    ((a b : Interval) (n m : ℕ) → x ≡ value n → y ≡ value m → Lies n a → Lies m b → c n m ≡ false → ReachedAnd P (G a b)) →
    TestTold P (if_both as₁ bs F) (if_both as₁ bs G) (ks ++ flat_map (λ s. js) as₁) (bind_value x (λ n. bind_value y (λ m. value (truth (c n m)))))
unfolding bind_value if_both
compare_told P c F G as₁ bs ks js (failed k) y f g t u = any_left (eqb k) ks (flat_map (λ s. js) as₁) f
compare_told P c F G [] bs ks js (value n) y f g t u = absurd f
compare_told P c F G (a ∷ as₁) bs ks js (value n) (failed k) f g t u = any_right (eqb k) ks (js ++ flat_map (λ s. js) as₁) (any_left (eqb k) js (flat_map (λ s. js) as₁) g)
compare_told P c F G (a ∷ as₁) [] ks js (value n) (value m) f g t u = absurd g
compare_told P c F G (a ∷ as₁) (b ∷ bs) ks js (value n) (value m) f g t u = go (c n m) refl
  where
    go : (r : Bool) → c n m ≡ r → TestTold P (F a b) (G a b) (ks ++ flat_map (λ s. js) (a ∷ as₁)) (value (truth r))
    go true q = t a b n m refl refl f g q
    go false q = u a b n m refl refl f g q

not_told : (P : Env → Type 0) (y n : Abstract) (ks : List ℕ) (x : Evaluated) → TestTold P y n ks x → TestTold P n y ks (bind_value x (λ k. value (1 - k)))
unfolding bind_value
not_told P y n ks (failed k) f = f
not_told P y n ks (value zero) f = f
not_told P y n ks (value (suc zero)) f = f
not_told P y n ks (value (suc (suc k))) f = absurd f

-- the second test's faults are found from what is assumed of the first
later_faults : (P : Env → Type 0) (y : Abstract) (K : Env → List ℕ) (ks : List ℕ) (k : ℕ) → ((v : Env) → P v → any (eqb k) (K v) ≡ true) → ReachedAnd P y → any (eqb k) (ks ++ faults_in y K) ≡ true
unfolding faults_in
later_faults P unreached K ks k f h = absurd h
later_faults P (reached v) K ks k f h = any_right (eqb k) ks (K v) (f v h)

never_reached : {A : Type 0} (P : Env → Type 0) (y : Abstract) → ((v : Env) → P v → ⊥) → ReachedAnd P y → A
never_reached P unreached f h = absurd h
never_reached P (reached v) f h = absurd (f v h)

-- both, from what the two tests come to
and_told : (P : Env → Type 0) (y n : Abstract) (Y N : Env → Abstract) (ks : List ℕ) (K : Env → List ℕ) (x z : Evaluated) →
    (ReachedAnd P n → ReachedAnd P (join n (bind y N))) → (ReachedAnd P (bind y N) → ReachedAnd P (join n (bind y N))) →
    TestTold P y n ks x → ((v : Env) → P v → TestTold P (Y v) (N v) (K v) z) →
    TestTold P (bind y Y) (join n (bind y N)) (ks ++ faults_in y K) (bind_value x (λ k. cond (eqb k 0) (value 0) z))
unfolding bind_value
and_told P y n Y N ks K (failed k) z l r f g = any_left (eqb k) ks (faults_in y K) f
and_told P y n Y N ks K (value zero) z l r f g = l f
and_told P y n Y N ks K (value (suc zero)) (failed k) l r f g = later_faults P y K ks k g f
and_told P y n Y N ks K (value (suc zero)) (value zero) l r f g = r (bind_and P P y N g f)
and_told P y n Y N ks K (value (suc zero)) (value (suc zero)) l r f g = bind_and P P y Y g f
and_told P y n Y N ks K (value (suc zero)) (value (suc (suc k))) l r f g = never_reached P y g f
and_told P y n Y N ks K (value (suc (suc k))) z l r f g = absurd f

-- either, from what the two tests come to
or_told : (P : Env → Type 0) (y n : Abstract) (Y N : Env → Abstract) (ks : List ℕ) (K : Env → List ℕ) (x z : Evaluated) →
    (ReachedAnd P y → ReachedAnd P (join y (bind n Y))) → (ReachedAnd P (bind n Y) → ReachedAnd P (join y (bind n Y))) →
    TestTold P y n ks x → ((v : Env) → P v → TestTold P (Y v) (N v) (K v) z) →
    TestTold P (join y (bind n Y)) (bind n N) (ks ++ faults_in n K) (bind_value x (λ k. cond (eqb k 0) z (value 1)))
unfolding bind_value
or_told P y n Y N ks K (failed k) z l r f g = any_left (eqb k) ks (faults_in n K) f
or_told P y n Y N ks K (value (suc zero)) z l r f g = l f
or_told P y n Y N ks K (value zero) (failed k) l r f g = later_faults P n K ks k g f
or_told P y n Y N ks K (value zero) (value zero) l r f g = bind_and P P n N g f
or_told P y n Y N ks K (value zero) (value (suc zero)) l r f g = r (bind_and P P n Y g f)
or_told P y n Y N ks K (value zero) (value (suc (suc k))) l r f g = never_reached P n g f
or_told P y n Y N ks K (value (suc (suc k))) z l r f g = absurd f

-- what is assumed of a first test and of a second behind it has the same size
second_size : (ns : List ℕ) (t : Test) (b c : Bool) (u : Test) (d : Bool) (w : Env) → SameSize (assume ns b t w) (bind (assume ns c t w) (λ v. assume ns d u v))
second_size ns t b c u d w =
    let p = length w.values in
    let q = length w.arrays in
    sized_same p q (assume ns b t w) (bind (assume ns c t w) (λ v. assume ns d u v)) (assume_sized p q ns t b w (refl, refl))
    (bind_implies (Sized p q) (Sized p q) (assume ns c t w) (λ v. assume ns d u v) (λ v z. assume_sized p q ns u d v z) (assume_sized p q ns t c w (refl, refl)))

-- what a test comes to is told by what is assumed of it and by its faults
pub assume_told : (ns : List ℕ) (s : State) (t : Test) (w : Env) → Describes ns s w → TestTold (Describes ns s) (assume ns true t w) (assume ns false t w) (test_faults ns t w) (eval_test s t)
unfolding assume test_faults eval_test
assume_told ns s (less a b) w h =
    compare_told (Describes ns s) ltb (assume_less a b w) (assume_not_less a b w)
    (eval_interval ns w a).intervals (eval_interval ns w b).intervals (eval_interval ns w a).faults (eval_interval ns w b).faults (eval s a) (eval s b) (eval_fits ns s w h a) (eval_fits ns s w h b)
    (λ i j n m e f l k. less_sound ns s w h a b i j n m e f l k) (λ i j n m e f l k. not_less_sound ns s w h a b i j n m e f l k)
assume_told ns s (equal a b) w h =
    compare_told (Describes ns s) eqb (assume_equal a b w) (assume_unequal a b w)
    (eval_interval ns w a).intervals (eval_interval ns w b).intervals (eval_interval ns w a).faults (eval_interval ns w b).faults (eval s a) (eval s b) (eval_fits ns s w h a) (eval_fits ns s w h b)
    (λ i j n m e f l k. equal_sound ns s w h a b i j n m e f l k) (λ i j n m e f l k. unequal_sound ns s w h a b i j n m e f l k)
assume_told ns s (not_test t) w h = not_told (Describes ns s) (assume ns true t w) (assume ns false t w) (test_faults ns t w) (eval_test s t) (assume_told ns s t w h)
assume_told ns s (and_test t u) w h =
    let y = assume ns true t w in
    let n = assume ns false t w in
    let z = second_size ns t false true u false w in
    and_told (Describes ns s) y n (λ v. assume ns true u v) (λ v. assume ns false u v) (test_faults ns t w) (λ v. test_faults ns u v) (eval_test s t) (eval_test s u)
    (covers_below ns s n (join n (bind y (λ v. assume ns false u v))) (join_above_left n (bind y (λ v. assume ns false u v)) z))
    (covers_below ns s (bind y (λ v. assume ns false u v)) (join n (bind y (λ v. assume ns false u v))) (join_above_right n (bind y (λ v. assume ns false u v)) z))
    (assume_told ns s t w h) (λ v k. assume_told ns s u v k)
assume_told ns s (or_test t u) w h =
    let y = assume ns true t w in
    let n = assume ns false t w in
    let z = second_size ns t true false u true w in
    or_told (Describes ns s) y n (λ v. assume ns true u v) (λ v. assume ns false u v) (test_faults ns t w) (λ v. test_faults ns u v) (eval_test s t) (eval_test s u)
    (covers_below ns s y (join y (bind n (λ v. assume ns true u v))) (join_above_left y (bind n (λ v. assume ns true u v)) z))
    (covers_below ns s (bind n (λ v. assume ns true u v)) (join y (bind n (λ v. assume ns true u v))) (join_above_right y (bind n (λ v. assume ns true u v)) z))
    (assume_told ns s t w h) (λ v k. assume_told ns s u v k)

assume_sound : AssumeSound
unfolding AssumeSound
assume_sound ns s w t d valid =
    let h = assume_told ns s t w (describes_from_test ns s w d) in
    let T : Evaluated → Type 0 = TestTold (Describes ns s) (assume ns true t w) (assume ns false t w) (test_faults ns t w) in
    (λ e. covers_to_test ns s (assume ns true t w) (subst T e h), λ e. covers_to_test ns s (assume ns false t w) (subst T e h))

pub test_sound : TestSound
unfolding TestSound
test_sound = (
  assume_sound,
  λ ns s w t d valid k e. subst (TestTold (Describes ns s) (assume ns true t w) (assume ns false t w) (test_faults ns t w)) e (assume_told ns s t w (describes_from_test ns s w d)),
)
