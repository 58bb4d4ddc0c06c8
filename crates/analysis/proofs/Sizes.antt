-- The analysis keeps the number of variables and arrays. Rests on Clauses, and on Kept for tests.
use Rattle.std.proofs.Common.{ℕ, zero, suc, ◌-◌, Bool, true, false, cond, eqb, leb, List, [], ◌∷◌, set, refl, arith, length-set}
use Rattle.program.specs.Syntax.{Expr, num, var, bin, element, Test, Stmt, skip, assign, store, input, check, seq, branch, loop}
use Rattle.interval.specs.Interval.{Interval, meet, join_interval, widen_interval}
use Rattle.analysis.specs.Reach.{unreached, reached, bind}
use Rattle.analysis.specs.AbstractState.{Env, Abstract, nth_interval, merge, join, widen, within}
use Rattle.analysis.specs.Assume.{cut, assume}
use Rattle.analysis.specs.Iteration.{iterate}
use Rattle.analysis.specs.Analyser.{assigned, stored, analyse}
use Rattle.analysis.specs.Clauses.{one_round}
use Rattle.analysis.specs.Padding.{Sized}
use Rattle.analysis.proofs.Order
use Rattle.analysis.proofs.Kept
use Rattle.analysis.proofs.Reach.{bind_implies}
use Rattle.analysis.proofs.Join.{zip_length}
use Rattle.analysis.proofs.Clauses.{analyse_skip, analyse_assign, analyse_store, analyse_input, analyse_check, analyse_seq, analyse_branch, analyse_loop}

module _ (n r : ℕ) where
  pub merge_sized : (f : Interval → Interval → Interval) (h g : Abstract) → Sized n r h → Sized n r g → Sized n r (merge f h g)
  unfolding merge
  merge_sized f unreached g p q = q
  merge_sized f (reached w) unreached p q = p
  merge_sized f (reached w) (reached v) p q =
      let x = zip_length f w.values v.values (omega arith) in let y = zip_length f w.arrays v.arrays (omega arith) in (omega arith, omega arith)

  pub cond_sized : (c : Bool) (h g : Abstract) → Sized n r h → Sized n r g → Sized n r (cond c h g)
  cond_sized true h g p q = p
  cond_sized false h g p q = q

  -- from a state on, if what follows keeps sizes
  pub bind_sized : (h : Abstract) (f : Env → Abstract) → Sized n r h → ((w : Env) → Sized n r (reached w) → Sized n r (f w)) → Sized n r (bind h f)
  bind_sized h f p k = bind_implies (Order.Sized n r) (Order.Sized n r) h f k p

  pub assume_sized : (ns : List ℕ) (y : Bool) (t : Test) (w : Env) → Sized n r (reached w) → Sized n r (assume ns y t w)
  assume_sized ns y t w p = Kept.assume_sized n r ns t y w p

  pub cut_sized : (e : Expr) (w : Env) (s : Interval) → Sized n r (reached w) → Sized n r (cut e w s)
  unfolding cut
  cut_sized (num m) w s p = p
  cut_sized (var x) w s p =
      let a : Interval = meet (nth_interval w.values x) s in
      cond_sized (leb a.lo a.hi) (reached (record { values = set w.values x a; arrays = w.arrays })) unreached (rw length-set p) tt
  cut_sized (bin k a b) w s p = p
  cut_sized (element q a) w s p = p

  assigned_sized : (w : Env) (x : ℕ) (ss : List Interval) → Sized n r (reached w) → Sized n r (assigned w x ss)
  unfolding assigned
  assigned_sized w x [] p = tt
  assigned_sized w x (s ∷ ss) p = rw length-set p

  stored_sized : (w : Env) (q : ℕ) (is vs : List Interval) → Sized n r (reached w) → Sized n r (stored w q is vs)
  unfolding stored
  stored_sized w q [] vs p = tt
  stored_sized w q (i ∷ is) [] p = tt
  stored_sized w q (i ∷ is) (v ∷ vs) p = rw length-set p

  pub iterate_sized : (ms : List ℕ) (k m : ℕ) (f : Abstract → Abstract) → ((g : Abstract) → Sized n r g → Sized n r (f g)) →
      (h : Abstract) → Sized n r h → Sized n r (iterate ms k m f h)
  unfolding iterate
  iterate_sized ms k zero f keeps h p = p
  iterate_sized ms k (suc m) f keeps h p =
      let j = merge_sized join_interval h (f h) p (keeps h p) in
      cond_sized (within (f h) h) h _ p
      (iterate_sized ms (k - 1) m f keeps _ (cond_sized (eqb k 0) (widen ms h (join h (f h))) (join h (f h)) (merge_sized (widen_interval ms) h (join h (f h)) p j) j))

  pub analyse_sized : (ns ms : List ℕ) (m : ℕ) (d : Stmt) (h : Abstract) → Sized n r h → Sized n r (analyse ns ms m d h).out
  analyse_sized ns ms m skip h p = rw (analyse_skip ns ms m h) p
  analyse_sized ns ms m (assign q x e) h p = rw (analyse_assign ns ms m q x e h) (bind_sized h _ p (λ w k. assigned_sized w x _ k))
  analyse_sized ns ms m (store q s a e) h p = rw (analyse_store ns ms m q s a e h) (bind_sized h _ p (λ w k. stored_sized w s _ _ k))
  analyse_sized ns ms m (input q x a b) h p = rw (analyse_input ns ms m q x a b h) (bind_sized h _ p (λ w k. rw length-set k))
  analyse_sized ns ms m (check q t) h p = rw (analyse_check ns ms m q t h) (bind_sized h _ p (λ w k. assume_sized ns true t w k))
  analyse_sized ns ms m (seq a b) h p = rw (analyse_seq ns ms m a b h) (analyse_sized ns ms m b _ (analyse_sized ns ms m a h p))
  analyse_sized ns ms m (branch q t a b) h p = rw (analyse_branch ns ms m q t a b h)
      (merge_sized _ _ _ (analyse_sized ns ms m a _ (bind_sized h _ p (λ w k. assume_sized ns true t w k))) (analyse_sized ns ms m b _ (bind_sized h _ p (λ w k. assume_sized ns false t w k))))
  analyse_sized ns ms m (loop q t a) h p =
      let f : Abstract → Abstract = one_round ns ms m t a h in
      let k = iterate_sized ms 4 m f (λ g i. merge_sized join_interval h _ p (analyse_sized ns ms m a _ (bind_sized g _ i (λ w l. assume_sized ns true t w l)))) h p in
      rw (analyse_loop ns ms m q t a h (iterate ms 4 m f h) refl) (bind_sized (iterate ms 4 m f h) _ k (λ w l. assume_sized ns false t w l))
