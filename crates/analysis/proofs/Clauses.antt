-- The analyser's clauses for every abstract state, reached or not, and the rounds of a loop one by one. Rests on the definitions alone.
use Rattle.std.proofs.Common.{◌≡◌, ℕ, zero, suc, ◌+◌, ◌-◌, true, false, cond, eqb, List, [], ◌++◌, refl, arith}
use Rattle.program.specs.Syntax.{Expr, Test, Stmt, skip, assign, store, input, check, seq, branch, loop}
use Rattle.analysis.specs.Reach.{unreached, reached, bind, faults_in, analysis, alarms_at, with_alarms, if_reached}
use Rattle.analysis.specs.AbstractState.{Abstract, merge, join, widen, within}
use Rattle.analysis.specs.Assume.{assume, test_faults}
use Rattle.analysis.specs.Iteration.{iterate}
use Rattle.analysis.specs.Analyser.{analyse}
use Rattle.analysis.specs.Clauses.{assume_here, faults_here, assign_here, expr_faults_here, store_here, store_faults_here, input_here, check_faults_here, one_round}

-- one function for another that agrees with it
pub iterate_same : (ms : List ℕ) (k m : ℕ) (f g : Abstract → Abstract) → ((h : Abstract) → f h ≡ g h) → (h : Abstract) → iterate ms k m f h ≡ iterate ms k m g h
unfolding iterate
iterate_same ms k zero f g e h = refl
iterate_same ms k (suc m) f g e h =
    rw (e h, iterate_same ms (k - 1) m f g e (cond (eqb k 0) (widen ms h (join h (g h))) (join h (g h)))) refl

-- no round is left
pub iterate_none : (ms : List ℕ) (k m : ℕ) (f : Abstract → Abstract) (h : Abstract) → m ≡ 0 → iterate ms k m f h ≡ h
unfolding iterate
iterate_none ms k m f h e = rw e refl

-- a round brings nothing new
pub iterate_done : (ms : List ℕ) (k m : ℕ) (f : Abstract → Abstract) (h next : Abstract) → next ≡ f h → within next h ≡ true → iterate ms k m f h ≡ h
unfolding iterate
iterate_done ms k zero f h next e d = refl
iterate_done ms k (suc m) f h next e d = rw (← e, d) refl

-- a round brings something new: round i goes on to round i + 1
pub iterate_on : (ms : List ℕ) (i m m₁ : ℕ) (f : Abstract → Abstract) (h h₁ next : Abstract) → next ≡ f h → within next h ≡ false →
    h₁ ≡ cond (eqb (4 - i) 0) (widen ms h (join h next)) (join h next) → m ≡ suc m₁ → iterate ms (4 - (i + 1)) m₁ f h₁ ≡ iterate ms (4 - i) m f h
unfolding iterate
iterate_on ms i m m₁ f h h₁ next e d j l = rw (l, ← e, d, j, less i) refl
  where
    less : (i : ℕ) → 4 - (i + 1) ≡ 4 - i - 1
    less i = omega arith

module _ (ns ms : List ℕ) (n : ℕ) where
  -- nothing is done where nothing comes
  pub analyse_unreached : (d : Stmt) → analyse ns ms n d unreached ≡ analysis unreached []
  unfolding analyse if_reached bind merge within
  analyse_unreached skip = refl
  analyse_unreached (assign p x e) = refl
  analyse_unreached (store p r a e) = refl
  analyse_unreached (input p x a b) = refl
  analyse_unreached (check p t) = refl
  analyse_unreached (seq a b) = rw (analyse_unreached a, analyse_unreached b) refl
  analyse_unreached (branch p t a b) = refl
  analyse_unreached (loop p t a) =
      let f : Abstract → Abstract = λ g. join unreached (bind g (λ v. (analyse ns ms n a (assume ns true t v)).out)) in
      rw (iterate_done ms 4 n f unreached (f unreached) refl refl) refl

  pub analyse_skip : (h : Abstract) → analyse ns ms n skip h ≡ analysis h []
  unfolding analyse
  analyse_skip h = refl

  pub analyse_seq : (a b : Stmt) (h : Abstract) → analyse ns ms n (seq a b) h ≡ with_alarms (analyse ns ms n a h).alarms (analyse ns ms n b (analyse ns ms n a h).out)
  unfolding analyse
  analyse_seq a b h = refl

  pub analyse_assign : (p x : ℕ) (e : Expr) (h : Abstract) → analyse ns ms n (assign p x e) h ≡ analysis (assign_here ns x e h) (alarms_at p (expr_faults_here ns e h))
  unfolding analyse if_reached bind faults_in
  analyse_assign p x e unreached = refl
  analyse_assign p x e (reached w) = refl

  pub analyse_store : (p r : ℕ) (a e : Expr) (h : Abstract) → analyse ns ms n (store p r a e) h ≡ analysis (store_here ns r a e h) (alarms_at p (store_faults_here ns r a e h))
  unfolding analyse if_reached bind faults_in
  analyse_store p r a e unreached = refl
  analyse_store p r a e (reached w) = refl

  pub analyse_input : (p x a b : ℕ) (h : Abstract) → analyse ns ms n (input p x a b) h ≡ analysis (input_here x a b h) []
  unfolding analyse if_reached bind
  analyse_input p x a b unreached = refl
  analyse_input p x a b (reached w) = refl

  pub analyse_check : (p : ℕ) (t : Test) (h : Abstract) → analyse ns ms n (check p t) h ≡ analysis (assume_here ns true t h) (alarms_at p (check_faults_here ns t h))
  unfolding analyse if_reached bind faults_in within
  analyse_check p t unreached = refl
  analyse_check p t (reached w) = refl

  pub analyse_branch : (p : ℕ) (t : Test) (a b : Stmt) (h : Abstract) →
      analyse ns ms n (branch p t a b) h ≡ with_alarms (alarms_at p (faults_here ns t h))
      (analysis (join (analyse ns ms n a (assume_here ns true t h)).out (analyse ns ms n b (assume_here ns false t h)).out)
      ((analyse ns ms n a (assume_here ns true t h)).alarms ++ (analyse ns ms n b (assume_here ns false t h)).alarms))
  unfolding analyse if_reached bind faults_in merge
  analyse_branch p t a b unreached = rw (analyse_unreached a, analyse_unreached b) refl
  analyse_branch p t a b (reached w) = refl

  -- a round, and what comes behind the rounds, of a state reached or not
  round_is : (t : Test) (a : Stmt) (h g : Abstract) → join h (bind g (λ v. (analyse ns ms n a (assume ns true t v)).out)) ≡ one_round ns ms n t a h g
  unfolding bind
  round_is t a h unreached = rw (analyse_unreached a) refl
  round_is t a h (reached w) = refl

  behind : (p : ℕ) (t : Test) (a : Stmt) (inv : Abstract) →
      if_reached inv (λ w. with_alarms (alarms_at p (test_faults ns t w)) (analysis (assume ns false t w) (analyse ns ms n a (assume ns true t w)).alarms))
      ≡ with_alarms (alarms_at p (faults_here ns t inv)) (analysis (assume_here ns false t inv) (analyse ns ms n a (assume_here ns true t inv)).alarms)
  unfolding if_reached bind faults_in
  behind p t a unreached = rw (analyse_unreached a) refl
  behind p t a (reached w) = refl

  pub analyse_loop : (p : ℕ) (t : Test) (a : Stmt) (h inv : Abstract) → inv ≡ iterate ms 4 n (one_round ns ms n t a h) h →
      analyse ns ms n (loop p t a) h ≡ with_alarms (alarms_at p (faults_here ns t inv)) (analysis (assume_here ns false t inv) (analyse ns ms n a (assume_here ns true t inv)).alarms)
  unfolding analyse
  analyse_loop p t a h inv e =
      let f : Abstract → Abstract = λ g. join h (bind g (λ v. (analyse ns ms n a (assume ns true t v)).out)) in
      rw (iterate_same ms 4 n f (one_round ns ms n t a h) (round_is t a h) h, ← e) (behind p t a inv)
