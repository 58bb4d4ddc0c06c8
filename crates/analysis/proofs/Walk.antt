-- The analyser over a lawful domain is sound: every run of a statement from a state that lies in what is known is told.
-- Rests on the domain's laws alone.
use Rattle.std.proofs.Common.{◌≡◌, ℕ, zero, suc, true, false, cond, ◌&&◌, eqb, List, [], ◌∷◌, ◌++◌, refl, subst, arith}
use Rattle.std.proofs.lemmas.Bool.Decides.{nat_tests}
use Rattle.program.specs.Basics.{any}
use Rattle.program.specs.Syntax.{Test, Stmt, skip, assign, store, input, check, seq, branch, loop}
use Rattle.program.specs.Semantics.{State, Evaluated, value, failed, eval_test, Outcome, finished, fault, out_of_rounds, or_fault, and_then, run_loop, run}
use Rattle.analysis.specs.Reach.{Reach, unreached, reached, bind, Alarm, Analysis, analysis, alarms_at, with_alarms, if_reached, ReachedAnd, ReachedImplies}
use Rattle.analysis.specs.Concretisation.{has_alarm}
use Rattle.analysis.specs.Domain.{Domain, walk}
use Rattle.analysis.specs.Lawful.{TestTold, RunTold, Steps, Each, Lawful, WalkSound}
use Rattle.analysis.proofs.Reach.{bind_implies}
use Rattle.analysis.proofs.Lists.{any_left, any_right}

-- a fault among those of a statement is one of its alarms
pub alarm_at : (p k : ℕ) (ks : List ℕ) → any (eqb k) ks ≡ true → has_alarm (alarms_at p ks) p k ≡ true
alarm_at p k [] e = grind arith
alarm_at p k (j ∷ ks) e = let f = alarm_at p k ks in grind (arith, nat_tests)

-- more alarms in front tell no less
told_before : {K : Type 0} (γ : State → K → Type 0) (as₁ : List Alarm) (x : Analysis K) (o : Outcome) → RunTold γ x o → RunTold γ (with_alarms as₁ x) o
told_before γ as₁ x (finished s) h = h
told_before γ as₁ x (fault p k) h = any_right (λ a. eqb a.stmt p && eqb a.kind k) as₁ x.alarms h
told_before γ as₁ x out_of_rounds h = tt

-- one after the other
told_then : {K : Type 0} (γ : State → K → Type 0) (x y : Analysis K) (o : Outcome) (f : State → Outcome) →
    RunTold γ x o → ((u : State) → ReachedAnd (γ u) x.out → RunTold γ y (f u)) → RunTold γ (with_alarms x.alarms y) (and_then o f)
unfolding and_then
told_then γ x y (finished s) f h k = told_before γ x.alarms y (f s) (k s h)
told_then γ x y (fault p j) f h k = any_left (λ a. eqb a.stmt p && eqb a.kind j) x.alarms y.alarms h
told_then γ x y out_of_rounds f h k = tt

-- one round of a loop: what comes to its head at first, or from its body
abbrev round : (D : Domain) → Test → Stmt → Reach D.Known → Reach D.Known → Reach D.Known
round D t a h g = D.join h (bind g (λ v. (walk D a (D.assume true t v)).out))

-- what a loop's invariant w tells
abbrev behind : (D : Domain) → ℕ → Test → Stmt → D.Known → Analysis D.Known
behind D p t a w = with_alarms (alarms_at p (D.faults t w)) (analysis (D.assume false t w) (walk D a (D.assume true t w)).alarms)

module _ (D : Domain) (fit : Stmt → Type 0) (L : Lawful D fit) where
  -- what is known is well formed
  abbrev Good : Reach D.Known → Type 0
  Good h = ReachedImplies L.good h

  -- the state lies in what is known
  abbrev At : State → Reach D.Known → Type 0
  At s h = ReachedAnd (L.γ s) h

  body_good : (t : Test) (a : Stmt) → ((g : Reach D.Known) → Good g → Good (walk D a g).out) →
      (g : Reach D.Known) → Good g → Good (bind g (λ v. (walk D a (D.assume true t v)).out))
  body_good t a body g i = bind_implies L.good L.good g (λ v. (walk D a (D.assume true t v)).out) (λ v j. body (D.assume true t v) (L.assume_good true t v j)) i

  round_good : (t : Test) (a : Stmt) (h : Reach D.Known) → ((g : Reach D.Known) → Good g → Good (walk D a g).out) → Good h →
      (g : Reach D.Known) → Good g → Good (round D t a h g)
  round_good t a h body k g i = L.join_good h (bind g (λ v. (walk D a (D.assume true t v)).out)) k (body_good t a body g i)

  behind_good : (p : ℕ) (t : Test) (a : Stmt) (g : Reach D.Known) → Good g → Good (if_reached g (behind D p t a)).out
  unfolding if_reached
  behind_good p t a unreached i = tt
  behind_good p t a (reached w) i = L.assume_good false t w i

  -- one pass keeps what is known well formed
  pub walk_good : (d : Stmt) → Each fit d → (h : Reach D.Known) → Good h → Good (walk D d h).out
  unfolding walk if_reached
  walk_good skip c h g = g
  walk_good (assign p x e) c unreached g = tt
  walk_good (assign p x e) c (reached w) g = L.simple_good (assign p x e) w c g
  walk_good (store p r a e) c unreached g = tt
  walk_good (store p r a e) c (reached w) g = L.simple_good (store p r a e) w c g
  walk_good (input p x a b) c unreached g = tt
  walk_good (input p x a b) c (reached w) g = L.simple_good (input p x a b) w c g
  walk_good (check p t) c unreached g = tt
  walk_good (check p t) c (reached w) g = L.simple_good (check p t) w c g
  walk_good (seq a b) c h g = walk_good b c.1 (walk D a h).out (walk_good a c.0 h g)
  walk_good (branch p t a b) c unreached g = tt
  walk_good (branch p t a b) c (reached w) g =
      L.join_good (walk D a (D.assume true t w)).out (walk D b (D.assume false t w)).out
      (walk_good a c.0 (D.assume true t w) (L.assume_good true t w g)) (walk_good b c.1 (D.assume false t w) (L.assume_good false t w g))
  walk_good (loop p t a) c h g =
      behind_good p t a (D.iterate (round D t a h) h) (L.iterate_good (round D t a h) h (round_good t a h (walk_good a c) g) g)

  -- what is told of either branch is told of both
  joined_left : (x y : Analysis D.Known) (o : Outcome) → Good x.out → Good y.out → RunTold L.γ x o → RunTold L.γ (analysis (D.join x.out y.out) (x.alarms ++ y.alarms)) o
  joined_left x y (finished s) g k h = L.join_left s x.out y.out g k h
  joined_left x y (fault p j) g k h = any_left (λ a. eqb a.stmt p && eqb a.kind j) x.alarms y.alarms h
  joined_left x y out_of_rounds g k h = tt

  joined_right : (x y : Analysis D.Known) (o : Outcome) → Good x.out → Good y.out → RunTold L.γ y o → RunTold L.γ (analysis (D.join x.out y.out) (x.alarms ++ y.alarms)) o
  joined_right x y (finished s) g k h = L.join_right s x.out y.out g k h
  joined_right x y (fault p j) g k h = any_right (λ a. eqb a.stmt p && eqb a.kind j) x.alarms y.alarms h
  joined_right x y out_of_rounds g k h = tt

  -- a branch, from what its test comes to
  branch_told : (p : ℕ) (s : State) (holds fails : Reach D.Known) (ks : List ℕ) (r : Evaluated) (x y : Analysis D.Known) (o u : Outcome) → Good x.out → Good y.out →
      (At s holds → RunTold L.γ x o) → (At s fails → RunTold L.γ y u) → TestTold (L.γ s) holds fails ks r →
      RunTold L.γ (with_alarms (alarms_at p ks) (analysis (D.join x.out y.out) (x.alarms ++ y.alarms))) (or_fault p r (λ k. cond (eqb k 0) u o))
  unfolding or_fault
  branch_told p s holds fails ks (failed k) x y o u g h e f t = any_left (λ a. eqb a.stmt p && eqb a.kind k) (alarms_at p ks) (x.alarms ++ y.alarms) (alarm_at p k ks t)
  branch_told p s holds fails ks (value zero) x y o u g h e f t =
      told_before L.γ (alarms_at p ks) (analysis (D.join x.out y.out) (x.alarms ++ y.alarms)) u (joined_right x y u g h (f t))
  branch_told p s holds fails ks (value (suc zero)) x y o u g h e f t =
      told_before L.γ (alarms_at p ks) (analysis (D.join x.out y.out) (x.alarms ++ y.alarms)) o (joined_left x y o g h (e t))
  branch_told p s holds fails ks (value (suc (suc k))) x y o u g h e f t = absurd t

  -- one turn of a loop with the invariant w, from what its test and its body come to
  turn_told : (p : ℕ) (t : Test) (a : Stmt) (w : D.Known) (s : State) (r : Evaluated) (o : Outcome) (f : State → Outcome) →
      TestTold (L.γ s) (D.assume true t w) (D.assume false t w) (D.faults t w) r →
      (At s (D.assume true t w) → RunTold L.γ (walk D a (D.assume true t w)) o) → ((u : State) → r ≡ value 1 → o ≡ finished u → RunTold L.γ (behind D p t a w) (f u)) →
      RunTold L.γ (behind D p t a w) (or_fault p r (λ k. cond (eqb k 0) (finished s) (and_then o f)))
  unfolding or_fault and_then
  turn_told p t a w s (failed k) o f e body next =
      any_left (λ x. eqb x.stmt p && eqb x.kind k) (alarms_at p (D.faults t w)) (walk D a (D.assume true t w)).alarms (alarm_at p k (D.faults t w) e)
  turn_told p t a w s (value zero) o f e body next = e
  turn_told p t a w s (value (suc zero)) (finished u) f e body next = next u refl refl
  turn_told p t a w s (value (suc zero)) (fault q k) f e body next =
      any_right (λ x. eqb x.stmt q && eqb x.kind k) (alarms_at p (D.faults t w)) (walk D a (D.assume true t w)).alarms (body e)
  turn_told p t a w s (value (suc zero)) out_of_rounds f e body next = tt
  turn_told p t a w s (value (suc (suc k))) o f e body next = absurd e

  -- a loop whose invariant holds all states that reach its head: S are these
  loop_told : (p : ℕ) (t : Test) (a : Stmt) (n : ℕ) (S : State → Type 0) (g : Reach D.Known) → Good g →
      ((s : State) → S s → At s g) → ((s u : State) → S s → eval_test s t ≡ value 1 → run n a s ≡ finished u → S u) →
      ((s : State) (h : Reach D.Known) → Good h → At s h → RunTold L.γ (walk D a h) (run n a s)) →
      (m : ℕ) (s : State) → S s → RunTold L.γ (if_reached g (behind D p t a)) (run_loop m p t (λ u. run n a u) s)
  unfolding run_loop if_reached
  loop_told p t a n S g i holds step body zero s r = tt
  loop_told p t a n S unreached i holds step body (suc m) s r = absurd (holds s r)
  loop_told p t a n S (reached w) i holds step body (suc m) s r =
      turn_told p t a w s (eval_test s t) (run n a s) (λ u. run_loop m p t (λ v. run n a v) u)
      (L.test_sound t s w i (holds s r)) (body s (D.assume true t w) (L.assume_good true t w i))
      (λ u e f. loop_told p t a n S (reached w) i holds step body m u (step s u r e f))

  -- a round takes what lies in g on to what lies in the round of g
  round_sound : (t : Test) (a : Stmt) (n : ℕ) (h : Reach D.Known) → ((g : Reach D.Known) → Good g → Good (walk D a g).out) → Good h →
      ((s : State) (g : Reach D.Known) → Good g → At s g → RunTold L.γ (walk D a g) (run n a s)) →
      (s u : State) (g : Reach D.Known) → Good g → At s g → (eval_test s t ≡ value 1) × (run n a s ≡ finished u) → At u (round D t a h g)
  unfolding bind
  round_sound t a n h good k body s u unreached i c e = absurd c
  round_sound t a n h good k body s u (reached w) i c e =
      let v = D.assume true t w in
      L.join_right u h (walk D a v).out k (good v (L.assume_good true t w i))
      (subst (RunTold L.γ (walk D a v)) e.1
      (body s v (L.assume_good true t w i) (subst (TestTold (L.γ s) (D.assume true t w) (D.assume false t w) (D.faults t w)) e.0 (L.test_sound t s w i c))))

  -- every run from a state that lies in what is known is told
  pub walk_told : (d : Stmt) → Each fit d → (n : ℕ) (s : State) (h : Reach D.Known) → Good h → At s h → RunTold L.γ (walk D d h) (run n d s)
  unfolding walk run if_reached
  walk_told skip c n s h g k = k
  walk_told (assign p x e) c n s unreached g k = absurd k
  walk_told (assign p x e) c n s (reached w) g k = L.simple_sound (assign p x e) n s w c g k
  walk_told (store p r a e) c n s unreached g k = absurd k
  walk_told (store p r a e) c n s (reached w) g k = L.simple_sound (store p r a e) n s w c g k
  walk_told (input p x a b) c n s unreached g k = absurd k
  walk_told (input p x a b) c n s (reached w) g k = L.simple_sound (input p x a b) n s w c g k
  walk_told (check p t) c n s unreached g k = absurd k
  walk_told (check p t) c n s (reached w) g k = L.simple_sound (check p t) n s w c g k
  walk_told (seq a b) c n s h g k =
      told_then L.γ (walk D a h) (walk D b (walk D a h).out) (run n a s) (λ u. run n b u) (walk_told a c.0 n s h g k)
      (λ u i. walk_told b c.1 n u (walk D a h).out (walk_good a c.0 h g) i)
  walk_told (branch p t a b) c n s unreached g k = absurd k
  walk_told (branch p t a b) c n s (reached w) g k =
      let y = D.assume true t w in
      let z = D.assume false t w in
      let i = L.assume_good true t w g in
      let j = L.assume_good false t w g in
      branch_told p s y z (D.faults t w) (eval_test s t) (walk D a y) (walk D b z) (run n a s) (run n b s) (walk_good a c.0 y i) (walk_good b c.1 z j)
      (walk_told a c.0 n s y i) (walk_told b c.1 n s z j) (L.test_sound t s w g k)
  walk_told (loop p t a) c n s h g k =
      let f : Reach D.Known → Reach D.Known = round D t a h in
      let R : State → State → Type 0 = (λ u v. (eval_test u t ≡ value 1) × (run n a u ≡ finished v)) in
      let keeps = round_good t a h (walk_good a c) g in
      loop_told p t a n (λ u. (m : ℕ) × Steps R m s u) (D.iterate f h) (L.iterate_good f h keeps g)
      (λ u r. L.iterate_sound R f h keeps g
      (λ v i j o. L.join_left v h (bind i (λ w. (walk D a (D.assume true t w)).out)) g (body_good t a (walk_good a c) i j) o)
      (round_sound t a n h (walk_good a c) g (λ v i. walk_told a c n v i)) r.0 s u k r.1)
      (λ u v r e q. (suc r.0, (u, r.1, (e, q)))) (λ v i. walk_told a c n v i) n s (0, refl)

pub walk_sound : WalkSound
unfolding WalkSound
walk_sound D fit L d c n s h g k = walk_told D fit L d c n s h g k
