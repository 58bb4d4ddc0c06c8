-- Thresholds that send every bound to the same place give the same of what is seen. Rests on the same of the analysis.
use Rattle.std.proofs.Common.{◌≡◌, ℕ, true, false, List, refl}
use Rattle.program.specs.Syntax.{Stmt, skip, assign, store, input, check, seq, branch, loop}
use Rattle.interval.specs.Interval.{threshold_above, threshold_below}
use Rattle.analysis.specs.AbstractState.{Abstract}
use Rattle.analysis.specs.Iteration.{iterate}
use Rattle.analysis.specs.Analyser.{analyse}
use Rattle.analysis.specs.Clauses.{assume_here, one_round}
use Rattle.analysis.proofs.SameThresholds.{analyse_same, rounds_same}
use Rattle.watch.specs.Watch.{noted, watch}

module _ (ns ms ms₁ : List ℕ) (above : (n : ℕ) → threshold_above n ms ≡ threshold_above n ms₁) (below : (n : ℕ) → threshold_below n ms ≡ threshold_below n ms₁) (n k : ℕ) where
  pub watch_same : (d : Stmt) (h s : Abstract) → watch ns ms n k d h s ≡ watch ns ms₁ n k d h s
  unfolding watch
  watch_same skip h s = refl
  watch_same (assign p x e) h s = refl
  watch_same (store p r a e) h s = refl
  watch_same (input p x a b) h s = refl
  watch_same (check p t) h s = refl
  watch_same (seq a b) h s =
      rw (analyse_same ns ms ms₁ above below n a h, watch_same a h s, watch_same b (analyse ns ms₁ n a h).out (watch ns ms₁ n k a h s)) refl
  watch_same (branch p t a b) h s =
      rw (watch_same a (assume_here ns true t h) (noted k p h s), watch_same b (assume_here ns false t h) (watch ns ms₁ n k a (assume_here ns true t h) (noted k p h s))) refl
  watch_same (loop p t a) h s =
      let inv : Abstract = iterate ms₁ 4 n (one_round ns ms₁ n t a h) h in
      rw (rounds_same ns ms ms₁ above below n t a h, watch_same a (assume_here ns true t inv) (noted k p inv s)) refl
