-- Thresholds count only by where they send a bound: two lists that send every bound to the same place give the same analysis. Rests on Clauses.
use Rattle.std.proofs.Common.{◌≡◌, ℕ, zero, suc, ◌-◌, true, false, cond, eqb, List, [], ◌∷◌, refl}
use Rattle.program.specs.Syntax.{Test, Stmt, skip, assign, store, input, check, seq, branch, loop}
use Rattle.interval.specs.Interval.{Interval, threshold_above, threshold_below, widen_interval}
use Rattle.analysis.specs.Reach.{unreached, reached, if_reached}
use Rattle.analysis.specs.AbstractState.{Abstract, zip_with, merge, join, widen}
use Rattle.analysis.specs.Assume.{assume}
use Rattle.analysis.specs.Iteration.{iterate}
use Rattle.analysis.specs.Analyser.{analyse}
use Rattle.analysis.specs.Clauses.{one_round, assume_here}
use Rattle.analysis.proofs.Clauses.{iterate_same, analyse_loop}

zip_same : (f g : Interval → Interval → Interval) → ((a b : Interval) → f a b ≡ g a b) → (as₁ bs : List Interval) → zip_with f as₁ bs ≡ zip_with g as₁ bs
unfolding zip_with
zip_same f g e [] bs = refl
zip_same f g e (a ∷ as₁) [] = refl
zip_same f g e (a ∷ as₁) (b ∷ bs) = rw (e a b, zip_same f g e as₁ bs) refl

merge_same : (f g : Interval → Interval → Interval) → ((a b : Interval) → f a b ≡ g a b) → (h k : Abstract) → merge f h k ≡ merge g h k
unfolding merge
merge_same f g e unreached k = refl
merge_same f g e (reached w) unreached = refl
merge_same f g e (reached w) (reached v) = rw (zip_same f g e w.values v.values, zip_same f g e w.arrays v.arrays) refl

module _ (ms ms₁ : List ℕ) (above : (n : ℕ) → threshold_above n ms ≡ threshold_above n ms₁) (below : (n : ℕ) → threshold_below n ms ≡ threshold_below n ms₁) where
  widen_same : (h g : Abstract) → widen ms h g ≡ widen ms₁ h g
  widen_same h g = merge_same (widen_interval ms) (widen_interval ms₁) (λ a b. rw (above b.hi, below b.lo) refl) h g

  iterate_thresholds : (k m : ℕ) (f : Abstract → Abstract) (h : Abstract) → iterate ms k m f h ≡ iterate ms₁ k m f h
  unfolding iterate
  iterate_thresholds k zero f h = refl
  iterate_thresholds k (suc m) f h =
      rw (widen_same h (join h (f h)), iterate_thresholds (k - 1) m f (cond (eqb k 0) (widen ms₁ h (join h (f h))) (join h (f h)))) refl

  analyse_thresholds : (ns : List ℕ) (n : ℕ) (d : Stmt) (h : Abstract) → analyse ns ms n d h ≡ analyse ns ms₁ n d h
  unfolding analyse if_reached
  analyse_thresholds ns n skip h = refl
  analyse_thresholds ns n (assign p x e) h = refl
  analyse_thresholds ns n (store p r a e) h = refl
  analyse_thresholds ns n (input p x a b) h = refl
  analyse_thresholds ns n (check p t) h = refl
  analyse_thresholds ns n (seq a b) h = rw (analyse_thresholds ns n a h, analyse_thresholds ns n b (analyse ns ms₁ n a h).out) refl
  analyse_thresholds ns n (branch p t a b) unreached = refl
  analyse_thresholds ns n (branch p t a b) (reached w) =
      rw (analyse_thresholds ns n a (assume ns true t w), analyse_thresholds ns n b (assume ns false t w)) refl
  analyse_thresholds ns n (loop p t a) h =
      let f : Abstract → Abstract = one_round ns ms n t a h in
      let g : Abstract → Abstract = one_round ns ms₁ n t a h in
      let e : iterate ms 4 n f h ≡ iterate ms₁ 4 n g h =
      rw (iterate_same ms 4 n f g (λ k. rw (analyse_thresholds ns n a (assume_here ns true t k)) refl) h, iterate_thresholds 4 n g h) refl in
      rw (
        analyse_loop ns ms n p t a h (iterate ms 4 n f h) refl,
        analyse_loop ns ms₁ n p t a h (iterate ms 4 n f h) e,
        analyse_thresholds ns n a (assume_here ns true t (iterate ms 4 n f h)),
      ) refl

pub analyse_same : (ns ms ms₁ : List ℕ) → ((n : ℕ) → threshold_above n ms ≡ threshold_above n ms₁) → ((n : ℕ) → threshold_below n ms ≡ threshold_below n ms₁) →
    (n : ℕ) (d : Stmt) (h : Abstract) → analyse ns ms n d h ≡ analyse ns ms₁ n d h
analyse_same ns ms ms₁ above below n d h = analyse_thresholds ms ms₁ above below ns n d h

-- a loop's rounds come to the same
pub rounds_same : (ns ms ms₁ : List ℕ) → ((n : ℕ) → threshold_above n ms ≡ threshold_above n ms₁) → ((n : ℕ) → threshold_below n ms ≡ threshold_below n ms₁) →
    (n : ℕ) (t : Test) (a : Stmt) (h : Abstract) → iterate ms 4 n (one_round ns ms n t a h) h ≡ iterate ms₁ 4 n (one_round ns ms₁ n t a h) h
rounds_same ns ms ms₁ above below n t a h =
    rw (
      iterate_same ms 4 n (one_round ns ms n t a h) (one_round ns ms₁ n t a h) (λ k. rw (analyse_same ns ms ms₁ above below n a (assume_here ns true t k)) refl) h,
      iterate_thresholds ms ms₁ above below 4 n (one_round ns ms₁ n t a h) h,
    ) refl
