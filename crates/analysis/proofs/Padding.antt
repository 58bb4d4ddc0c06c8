-- More variables and arrays than a program has, all of them 0, change nothing that the analysis tells. Rests on Sizes and Clauses.
use Rattle.std.proofs.Common.{◌≡◌, ℕ, zero, suc, ◌-◌, ◌<◌, Bool, true, false, cond, ◌&&◌, eqb, ltb, leb, List, [], ◌∷◌, length, set, replicate, sym, refl, arith}
use lib.Seq.{set-append_left}
use Rattle.std.proofs.lemmas.Bool.Decides.{nat_tests}
use Rattle.std.proofs.lemmas.Bool.{and_parts}
use Rattle.program.specs.Basics.{smaller, larger, limit}
use Rattle.program.specs.Syntax.{Expr, num, var, bin, element, Test, less, equal, not_test, and_test, or_test, Stmt, skip, assign, store, input, check, seq, branch, loop}
use Rattle.program.specs.Validity.{valid_expr, valid_test, test_size, valid_condition, valid_stmt}
use Rattle.interval.specs.Interval.{Interval, interval, meet, join_interval, widen_interval}
use Rattle.analysis.specs.Reach.{unreached, reached, bind, faults_in, analysis}
use Rattle.analysis.specs.AbstractState.{Env, Abstract, nth_interval, zip_with, merge, join, widen, all_within, within}
use Rattle.analysis.specs.Evaluation.{eval_interval}
use Rattle.analysis.specs.Assume.{cut, if_both, assume_less, assume_not_less, assume_equal, assume_unequal, assume, test_faults}
use Rattle.analysis.specs.Iteration.{iterate}
use Rattle.analysis.specs.Analyser.{assigned, stored, analyse}
use Rattle.analysis.specs.Clauses.{assume_here, faults_here, assign_here, expr_faults_here, store_here, store_faults_here, input_here, one_round}
use Rattle.analysis.specs.Padding.{pad_list, pad_env, pad, Sized, PaddingTells}
use Rattle.analysis.proofs.Clauses.{analyse_skip, analyse_assign, analyse_store, analyse_input, analyse_check, analyse_seq, analyse_branch, analyse_loop}
use Rattle.analysis.proofs.Sizes.{merge_sized, cond_sized, bind_sized, cut_sized, assume_sized, iterate_sized, analyse_sized}

-- an interval of a longer list
nth_zeros : (k x : ℕ) → nth_interval (replicate k (interval 0 0)) x ≡ interval 0 0
unfolding nth_interval
nth_zeros zero x = refl
nth_zeros (suc k) zero = refl
nth_zeros (suc k) (suc x) = nth_zeros k x

nth_pad : (k : ℕ) (ss : List Interval) (x : ℕ) → nth_interval (pad_list k ss) x ≡ nth_interval ss x
unfolding nth_interval
nth_pad k [] x = nth_zeros k x
nth_pad k (s ∷ ss) zero = refl
nth_pad k (s ∷ ss) (suc x) = nth_pad k ss x

-- interval by interval
zip_pad : (f : Interval → Interval → Interval) → f (interval 0 0) (interval 0 0) ≡ interval 0 0 → (k : ℕ) (as₁ bs : List Interval) → length bs ≡ length as₁ →
    zip_with f (pad_list k as₁) (pad_list k bs) ≡ pad_list k (zip_with f as₁ bs)
unfolding zip_with
zip_pad f z zero [] [] e = refl
zip_pad f z (suc k) [] [] e = rw (z, zip_pad f z k [] [] refl) refl
zip_pad f z k [] (b ∷ bs) e = absurd (omega arith)
zip_pad f z k (a ∷ as₁) [] e = absurd (omega arith)
zip_pad f z k (a ∷ as₁) (b ∷ bs) e = rw (zip_pad f z k as₁ bs (omega arith)) refl

within_pad_list : (k : ℕ) (as₁ bs : List Interval) → length bs ≡ length as₁ → all_within (pad_list k as₁) (pad_list k bs) ≡ all_within as₁ bs
unfolding all_within
within_pad_list zero [] [] e = refl
within_pad_list (suc k) [] [] e = within_pad_list k [] [] refl
within_pad_list k [] (b ∷ bs) e = absurd (omega arith)
within_pad_list k (a ∷ as₁) [] e = absurd (omega arith)
within_pad_list k (a ∷ as₁) (b ∷ bs) e = rw (within_pad_list k as₁ bs (omega arith)) refl

first_below : (x n : ℕ) (c : Bool) → (ltb x n && c) ≡ true → x < n
first_below x n c v = grind (arith, nat_tests)

module _ (n r k j : ℕ) where
  merge_pad : (f : Interval → Interval → Interval) → f (interval 0 0) (interval 0 0) ≡ interval 0 0 → (h g : Abstract) → Sized n r h → Sized n r g →
      merge f (pad k j h) (pad k j g) ≡ pad k j (merge f h g)
  unfolding merge pad
  merge_pad f z unreached g p q = refl
  merge_pad f z (reached w) unreached p q = refl
  merge_pad f z (reached w) (reached v) p q =
      rw (zip_pad f z k w.values v.values (omega arith), zip_pad f z j w.arrays v.arrays (omega arith)) refl

  within_pad : (h g : Abstract) → Sized n r h → Sized n r g → within (pad k j h) (pad k j g) ≡ within h g
  unfolding within pad
  within_pad unreached g p q = refl
  within_pad (reached w) unreached p q = refl
  within_pad (reached w) (reached v) p q =
      rw (within_pad_list k w.values v.values (omega arith), within_pad_list j w.arrays v.arrays (omega arith)) refl

  within_none : (h : Abstract) → within (pad k j h) unreached ≡ within h unreached
  unfolding within pad
  within_none unreached = refl
  within_none (reached w) = refl

  cond_pad : (c : Bool) (x y h g : Abstract) → x ≡ pad k j h → y ≡ pad k j g → cond c x y ≡ pad k j (cond c h g)
  cond_pad true x y h g p q = p
  cond_pad false x y h g p q = q

  -- from a state on, if what follows keeps the rest as it is
  bind_pad : (h : Abstract) (f : Env → Abstract) → Sized n r h → ((w : Env) → Sized n r (reached w) → f (pad_env k j w) ≡ pad k j (f w)) → bind (pad k j h) f ≡ pad k j (bind h f)
  unfolding bind pad
  bind_pad unreached f p e = refl
  bind_pad (reached w) f p e = e w p

  faults_pad : (h : Abstract) (f : Env → List ℕ) → Sized n r h → ((w : Env) → Sized n r (reached w) → f (pad_env k j w) ≡ f w) → faults_in (pad k j h) f ≡ faults_in h f
  unfolding faults_in pad
  faults_pad unreached f p e = refl
  faults_pad (reached w) f p e = e w p

  -- expressions
  eval_pad : (ns : List ℕ) (w : Env) (e : Expr) → eval_interval ns (pad_env k j w) e ≡ eval_interval ns w e
  unfolding eval_interval
  eval_pad ns w (num m) = refl
  eval_pad ns w (var x) = rw (nth_pad k w.values x) refl
  eval_pad ns w (bin o a b) = rw (eval_pad ns w a, eval_pad ns w b) refl
  eval_pad ns w (element q a) = rw (eval_pad ns w a, nth_pad j w.arrays q) refl

  cut_pad : (e : Expr) (w : Env) (s : Interval) → valid_expr n r e ≡ true → Sized n r (reached w) → cut e (pad_env k j w) s ≡ pad k j (cut e w s)
  unfolding cut valid_expr pad
  cut_pad (num m) w s v p = refl
  cut_pad (var x) w s v p =
      let l : x < length w.values = grind (arith, nat_tests) in
      let a : Interval = meet (nth_interval w.values x) s in
      rw (nth_pad k w.values x) (cond_pad (leb a.lo a.hi) (reached (record { values = set (pad_list k w.values) x a; arrays = pad_list j w.arrays })) unreached
      (reached (record { values = set w.values x a; arrays = w.arrays })) unreached (rw (set-append_left w.values (replicate k (interval 0 0)) x a l) refl) refl)
  cut_pad (bin o a b) w s v p = refl
  cut_pad (element q a) w s v p = refl

  both_pad : (as₁ bs : List Interval) (f g : Interval → Interval → Abstract) → ((s t : Interval) → f s t ≡ pad k j (g s t)) → if_both as₁ bs f ≡ pad k j (if_both as₁ bs g)
  unfolding if_both pad
  both_pad [] bs f g e = refl
  both_pad (a ∷ as₁) [] f g e = refl
  both_pad (a ∷ as₁) (b ∷ bs) f g e = e a b

  cuts_pad : (c : Bool) (a b : Expr) (w : Env) (s t : Interval) → valid_expr n r a ≡ true → valid_expr n r b ≡ true → Sized n r (reached w) →
      cond c (bind (cut a (pad_env k j w) s) (λ v. cut b v t)) unreached ≡ pad k j (cond c (bind (cut a w s) (λ v. cut b v t)) unreached)
  unfolding pad
  cuts_pad c a b w s t x y p =
      cond_pad c (bind (cut a (pad_env k j w) s) (λ v. cut b v t)) unreached (bind (cut a w s) (λ v. cut b v t)) unreached
      (rw (cut_pad a w s x p) (bind_pad (cut a w s) (λ v. cut b v t) (cut_sized n r a w s p) (λ v q. cut_pad b v t y q))) refl

  unequal_pad : (c : Bool) (w : Env) → cond c unreached (reached (pad_env k j w)) ≡ pad k j (cond c unreached (reached w))
  unfolding pad
  unequal_pad c w = cond_pad c unreached (reached (pad_env k j w)) unreached (reached w) refl refl

  join_bind_pad : (h g : Abstract) (f : Env → Abstract) → Sized n r h → Sized n r g → ((w : Env) → Sized n r (reached w) → Sized n r (f w)) →
      ((w : Env) → Sized n r (reached w) → f (pad_env k j w) ≡ pad k j (f w)) → join (pad k j h) (bind (pad k j g) f) ≡ pad k j (join h (bind g f))
  join_bind_pad h g f p q keeps e = rw (bind_pad g f q e) (merge_pad join_interval refl h (bind g f) p (bind_sized n r g f q keeps))

  -- tests
  assume_pad : (ns : List ℕ) (y : Bool) (t : Test) (w : Env) → valid_test n r t ≡ true → Sized n r (reached w) → assume ns y t (pad_env k j w) ≡ pad k j (assume ns y t w)
  unfolding assume valid_test
  assume_pad ns true (less a b) w v p =
      let (x, y) = and_parts (valid_expr n r a) (valid_expr n r b) v in
      rw (eval_pad ns w a, eval_pad ns w b) (both_pad _ _ (assume_less a b (pad_env k j w)) (assume_less a b w) (λ s t. cuts_pad (ltb s.lo t.hi) a b w _ _ x y p))
  assume_pad ns false (less a b) w v p =
      let (x, y) = and_parts (valid_expr n r a) (valid_expr n r b) v in
      rw (eval_pad ns w a, eval_pad ns w b) (both_pad _ _ (assume_not_less a b (pad_env k j w)) (assume_not_less a b w) (λ s t. cuts_pad (leb t.lo s.hi) a b w _ _ x y p))
  assume_pad ns true (equal a b) w v p =
      let (x, y) = and_parts (valid_expr n r a) (valid_expr n r b) v in
      rw (eval_pad ns w a, eval_pad ns w b) (both_pad _ _ (assume_equal a b (pad_env k j w)) (assume_equal a b w)
      (λ s t. cuts_pad (leb (larger s.lo t.lo) (smaller s.hi t.hi)) a b w _ _ x y p))
  assume_pad ns false (equal a b) w v p =
      rw (eval_pad ns w a, eval_pad ns w b) (both_pad _ _ (assume_unequal a b (pad_env k j w)) (assume_unequal a b w) (λ s t. unequal_pad _ w))
  assume_pad ns true (not_test t) w v p = assume_pad ns false t w v p
  assume_pad ns false (not_test t) w v p = assume_pad ns true t w v p
  assume_pad ns true (and_test t u) w v p =
      let (x, y) = and_parts (valid_test n r t) (valid_test n r u) v in
      rw (assume_pad ns true t w x p) (bind_pad (assume ns true t w) _ (assume_sized n r ns true t w p) (λ z q. assume_pad ns true u z y q))
  assume_pad ns false (and_test t u) w v p =
      let (x, y) = and_parts (valid_test n r t) (valid_test n r u) v in
      rw (assume_pad ns true t w x p, assume_pad ns false t w x p)
      (join_bind_pad (assume ns false t w) (assume ns true t w) _ (assume_sized n r ns false t w p) (assume_sized n r ns true t w p)
      (λ z q. assume_sized n r ns false u z q) (λ z q. assume_pad ns false u z y q))
  assume_pad ns true (or_test t u) w v p =
      let (x, y) = and_parts (valid_test n r t) (valid_test n r u) v in
      rw (assume_pad ns true t w x p, assume_pad ns false t w x p)
      (join_bind_pad (assume ns true t w) (assume ns false t w) _ (assume_sized n r ns true t w p) (assume_sized n r ns false t w p)
      (λ z q. assume_sized n r ns true u z q) (λ z q. assume_pad ns true u z y q))
  assume_pad ns false (or_test t u) w v p =
      let (x, y) = and_parts (valid_test n r t) (valid_test n r u) v in
      rw (assume_pad ns false t w x p) (bind_pad (assume ns false t w) _ (assume_sized n r ns false t w p) (λ z q. assume_pad ns false u z y q))

  test_faults_pad : (ns : List ℕ) (t : Test) (w : Env) → valid_test n r t ≡ true → Sized n r (reached w) → test_faults ns t (pad_env k j w) ≡ test_faults ns t w
  unfolding test_faults valid_test
  test_faults_pad ns (less a b) w v p = rw (eval_pad ns w a, eval_pad ns w b) refl
  test_faults_pad ns (equal a b) w v p = rw (eval_pad ns w a, eval_pad ns w b) refl
  test_faults_pad ns (not_test t) w v p = test_faults_pad ns t w v p
  test_faults_pad ns (and_test t u) w v p =
      let (x, y) = and_parts (valid_test n r t) (valid_test n r u) v in
      rw (
        test_faults_pad ns t w x p,
        assume_pad ns true t w x p,
        faults_pad (assume ns true t w) (λ z. test_faults ns u z) (assume_sized n r ns true t w p) (λ z q. test_faults_pad ns u z y q),
      ) refl
  test_faults_pad ns (or_test t u) w v p =
      let (x, y) = and_parts (valid_test n r t) (valid_test n r u) v in
      rw (
        test_faults_pad ns t w x p,
        assume_pad ns false t w x p,
        faults_pad (assume ns false t w) (λ z. test_faults ns u z) (assume_sized n r ns false t w p) (λ z q. test_faults_pad ns u z y q),
      ) refl

  -- the same from an abstract state
  assume_here_pad : (ns : List ℕ) (y : Bool) (t : Test) (h : Abstract) → valid_test n r t ≡ true → Sized n r h → assume_here ns y t (pad k j h) ≡ pad k j (assume_here ns y t h)
  assume_here_pad ns y t h v p = bind_pad h (λ w. assume ns y t w) p (λ w q. assume_pad ns y t w v q)

  faults_here_pad : (ns : List ℕ) (t : Test) (h : Abstract) → valid_test n r t ≡ true → Sized n r h → faults_here ns t (pad k j h) ≡ faults_here ns t h
  faults_here_pad ns t h v p = faults_pad h (λ w. test_faults ns t w) p (λ w q. test_faults_pad ns t w v q)

  assume_here_sized : (ns : List ℕ) (y : Bool) (t : Test) (h : Abstract) → Sized n r h → Sized n r (assume_here ns y t h)
  assume_here_sized ns y t h p = bind_sized n r h (λ w. assume ns y t w) p (λ w q. assume_sized n r ns y t w q)

  -- loops: if each round keeps the rest as it is, so do all
  iterate_pad : (ms : List ℕ) (i m : ℕ) (f g : Abstract → Abstract) → ((h : Abstract) → Sized n r h → Sized n r (g h)) →
      ((h : Abstract) → Sized n r h → f (pad k j h) ≡ pad k j (g h)) → (h : Abstract) → Sized n r h → iterate ms i m f (pad k j h) ≡ pad k j (iterate ms i m g h)
  unfolding iterate
  iterate_pad ms i zero f g keeps e h p = refl
  iterate_pad ms i (suc m) f g keeps e h p =
      let s = keeps h p in
      let J : Abstract = join h (g h) in
      let W : Abstract = widen ms h J in
      let q = merge_sized n r join_interval h (g h) p s in
      let u = merge_sized n r (widen_interval ms) h J p q in
      rw (e h p, within_pad (g h) h s p, merge_pad join_interval refl h (g h) p s, merge_pad (widen_interval ms) refl h J p q)
      (cond_pad (within (g h) h) (pad k j h) _ h (iterate ms (i - 1) m g (cond (eqb i 0) W J)) refl
      (rw (cond_pad (eqb i 0) (pad k j W) (pad k j J) W J refl refl) (iterate_pad ms (i - 1) m f g keeps e (cond (eqb i 0) W J) (cond_sized n r (eqb i 0) W J u q))))

  -- statements
  assigned_pad : (w : Env) (x : ℕ) (ss : List Interval) → x < n → Sized n r (reached w) → assigned (pad_env k j w) x ss ≡ pad k j (assigned w x ss)
  unfolding assigned pad
  assigned_pad w x [] l p = refl
  assigned_pad w x (s ∷ ss) l p = rw (set-append_left w.values (replicate k (interval 0 0)) x s (omega arith)) refl

  stored_pad : (w : Env) (q : ℕ) (is vs : List Interval) → q < r → Sized n r (reached w) → stored (pad_env k j w) q is vs ≡ pad k j (stored w q is vs)
  unfolding stored pad
  stored_pad w q [] vs l p = refl
  stored_pad w q (i ∷ is) [] l p = refl
  stored_pad w q (i ∷ is) (v ∷ vs) l p =
      rw (nth_pad j w.arrays q, set-append_left w.arrays (replicate j (interval 0 0)) q (join_interval (nth_interval w.arrays q) v) (omega arith)) refl

  assign_pad : (ns : List ℕ) (x : ℕ) (e : Expr) (h : Abstract) → x < n → Sized n r h → assign_here ns x e (pad k j h) ≡ pad k j (assign_here ns x e h)
  assign_pad ns x e h l p = bind_pad h _ p (λ w q. rw (eval_pad ns w e) (assigned_pad w x (eval_interval ns w e).intervals l q))

  store_pad : (ns : List ℕ) (s : ℕ) (a e : Expr) (h : Abstract) → s < r → Sized n r h → store_here ns s a e (pad k j h) ≡ pad k j (store_here ns s a e h)
  store_pad ns s a e h l p = bind_pad h _ p (λ w q. rw (eval_pad ns w a, eval_pad ns w e) (stored_pad w s _ _ l q))

  input_pad : (x a b : ℕ) (h : Abstract) → x < n → Sized n r h → input_here x a b (pad k j h) ≡ pad k j (input_here x a b h)
  unfolding pad
  input_pad x a b h l p = bind_pad h _ p (λ w q. rw (set-append_left w.values (replicate k (interval 0 0)) x (interval a (larger a b)) (omega arith)) refl)

  expr_faults_pad : (ns : List ℕ) (e : Expr) (h : Abstract) → Sized n r h → expr_faults_here ns e (pad k j h) ≡ expr_faults_here ns e h
  expr_faults_pad ns e h p = faults_pad h _ p (λ w q. rw (eval_pad ns w e) refl)

  store_faults_pad : (ns : List ℕ) (s : ℕ) (a e : Expr) (h : Abstract) → Sized n r h → store_faults_here ns s a e (pad k j h) ≡ store_faults_here ns s a e h
  store_faults_pad ns s a e h p = faults_pad h _ p (λ w q. rw (eval_pad ns w a, eval_pad ns w e) refl)

  analyse_pad : (ns ms : List ℕ) (m : ℕ) (d : Stmt) (h : Abstract) → valid_stmt n r d ≡ true → Sized n r h →
      analyse ns ms m d (pad k j h) ≡ analysis (pad k j (analyse ns ms m d h).out) (analyse ns ms m d h).alarms
  unfolding valid_stmt
  analyse_pad ns ms m skip h v p = rw (analyse_skip ns ms m h, analyse_skip ns ms m (pad k j h)) refl
  analyse_pad ns ms m (assign q x e) h v p =
      rw (analyse_assign ns ms m q x e h, analyse_assign ns ms m q x e (pad k j h), assign_pad ns x e h (first_below x n (valid_expr n r e) v) p, expr_faults_pad ns e h p) refl
  analyse_pad ns ms m (store q s a e) h v p =
      rw (
        analyse_store ns ms m q s a e h,
        analyse_store ns ms m q s a e (pad k j h),
        store_pad ns s a e h (first_below s r (valid_expr n r a && valid_expr n r e) v) p,
        store_faults_pad ns s a e h p,
      ) refl
  analyse_pad ns ms m (input q x a b) h v p =
      rw (analyse_input ns ms m q x a b h, analyse_input ns ms m q x a b (pad k j h), input_pad x a b h (first_below x n (leb a b && ltb b limit) v) p) refl
  analyse_pad ns ms m (check q t) h v p =
      let x = (and_parts (valid_test n r t) (leb (test_size t) 63) v).0 in
      rw (
        analyse_check ns ms m q t h,
        analyse_check ns ms m q t (pad k j h),
        assume_here_pad ns true t h x p,
        assume_here_pad ns false t h x p,
        faults_here_pad ns t h x p,
        within_none (assume_here ns false t h),
      ) refl
  analyse_pad ns ms m (seq a b) h v p =
      let (x, y) = and_parts (valid_stmt n r a) (valid_stmt n r b) v in
      rw (analyse_seq ns ms m a b h, analyse_seq ns ms m a b (pad k j h), analyse_pad ns ms m a h x p, analyse_pad ns ms m b (analyse ns ms m a h).out y (analyse_sized n r ns ms m a h p)) refl
  analyse_pad ns ms m (branch q t a b) h v p =
      let (c, d) = and_parts (valid_condition n r t) (valid_stmt n r a && valid_stmt n r b) v in
      let x = (and_parts (valid_test n r t) (leb (test_size t) 63) c).0 in
      let (y, z) = and_parts (valid_stmt n r a) (valid_stmt n r b) d in
      let A : Abstract = assume_here ns true t h in let B : Abstract = assume_here ns false t h in
      let i = assume_here_sized ns true t h p in let l = assume_here_sized ns false t h p in
      rw (
        analyse_branch ns ms m q t a b h,
        analyse_branch ns ms m q t a b (pad k j h),
        assume_here_pad ns true t h x p,
        assume_here_pad ns false t h x p,
        faults_here_pad ns t h x p,
        analyse_pad ns ms m a A y i,
        analyse_pad ns ms m b B z l,
        merge_pad join_interval refl (analyse ns ms m a A).out (analyse ns ms m b B).out (analyse_sized n r ns ms m a A i) (analyse_sized n r ns ms m b B l),
      ) refl
  analyse_pad ns ms m (loop q t a) h v p =
      let (c, y) = and_parts (valid_condition n r t) (valid_stmt n r a) v in
      let x = (and_parts (valid_test n r t) (leb (test_size t) 63) c).0 in
      let f : Abstract → Abstract = one_round ns ms m t a h in
      let I : Abstract = iterate ms 4 m f h in
      let keeps : (g : Abstract) → Sized n r g → Sized n r (f g) = λ g s. merge_sized n r join_interval h _ p (analyse_sized n r ns ms m a _ (assume_here_sized ns true t g s)) in
      let e : (g : Abstract) → Sized n r g → one_round ns ms m t a (pad k j h) (pad k j g) ≡ pad k j (f g) = λ g s.
      let A : Abstract = assume_here ns true t g in let i = assume_here_sized ns true t g s in
      rw (assume_here_pad ns true t g x s, analyse_pad ns ms m a A y i) (merge_pad join_interval refl h (analyse ns ms m a A).out p (analyse_sized n r ns ms m a A i)) in
      let s = iterate_sized n r ms 4 m f keeps h p in
      rw (
        analyse_loop ns ms m q t a h I refl,
        analyse_loop ns ms m q t a (pad k j h) (pad k j I) (sym (iterate_pad ms 4 m (one_round ns ms m t a (pad k j h)) f keeps e h p)),
        assume_here_pad ns true t I x s,
        assume_here_pad ns false t I x s,
        faults_here_pad ns t I x s,
        analyse_pad ns ms m a (assume_here ns true t I) y (assume_here_sized ns true t I s),
      ) refl

pub padding_tells : PaddingTells
unfolding PaddingTells
padding_tells ns ms n r k j m d h v p = analyse_pad n r k j ns ms m d h v p
