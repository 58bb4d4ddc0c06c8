-- Rounds that a run or an analysis does not need: a run that had rounds enough goes the same with more, and without
-- loops the analysis needs none. Rests on the definitions alone.
use Rattle.std.proofs.Common.{◌≡◌, ℕ, zero, suc, ◌+◌, ◌≤◌, Bool, true, false, cond, eqb, List, refl, arith}
use Rattle.std.proofs.lemmas.Bool.{and_parts}
use Rattle.program.specs.Syntax.{Test, Stmt, skip, assign, store, input, check, seq, branch, loop}
use Rattle.program.specs.Semantics.{State, Evaluated, value, failed, eval_test, Outcome, finished, fault, out_of_rounds, or_fault, and_then, run_loop, run, initial}
use Rattle.program.specs.Validity.{loop_free}
use Rattle.analysis.specs.Reach.{unreached, reached, if_reached}
use Rattle.analysis.specs.AbstractState.{Abstract}
use Rattle.analysis.specs.Assume.{assume}
use Rattle.analysis.specs.Analyser.{analyse}
use Rattle.analysis.specs.Thresholds.{thresholds}
use Rattle.analysis.specs.Statements.{ran_out, MoreRoundsSame, LoopFreeSame}

-- the second is the first, unless the first ran out of rounds
abbrev Same : Outcome → Outcome → Type 0
Same (finished s) y = y ≡ finished s
Same (fault p k) y = y ≡ fault p k
Same out_of_rounds y = Unit {0}

same_self : (x : Outcome) → Same x x
same_self (finished s) = refl
same_self (fault p k) = refl
same_self out_of_rounds = tt

same_or_fault : (p : ℕ) (e : Evaluated) (f g : ℕ → Outcome) → ((v : ℕ) → Same (f v) (g v)) → Same (or_fault p e f) (or_fault p e g)
unfolding or_fault
same_or_fault p (value n) f g h = h n
same_or_fault p (failed k) f g h = refl

same_then : (x y : Outcome) (f g : State → Outcome) → Same x y → ((u : State) → Same (f u) (g u)) → Same (and_then x f) (and_then y g)
unfolding and_then
same_then (finished s) y f g e h = rw e (h s)
same_then (fault p k) y f g e h = rw e refl
same_then out_of_rounds y f g e h = tt

same_cond : (c : Bool) (x y u v : Outcome) → Same x u → Same y v → Same (cond c x y) (cond c u v)
same_cond true x y u v h g = h
same_cond false x y u v h g = g

loop_same : (n m p : ℕ) (t : Test) (f g : State → Outcome) → n ≤ m → ((u : State) → Same (f u) (g u)) → (s : State) → Same (run_loop n p t f s) (run_loop m p t g s)
unfolding run_loop
loop_same zero m p t f g l h s = tt
loop_same (suc n) zero p t f g l h s = absurd (omega arith)
loop_same (suc n) (suc m) p t f g l h s =
    same_or_fault p (eval_test s t) (λ k. cond (eqb k 0) (finished s) (and_then (f s) (λ u. run_loop n p t f u))) (λ k. cond (eqb k 0) (finished s) (and_then (g s) (λ u. run_loop m p t g u)))
    (λ k. same_cond (eqb k 0) (finished s) (and_then (f s) (λ u. run_loop n p t f u)) (finished s) (and_then (g s) (λ u. run_loop m p t g u)) refl
    (same_then (f s) (g s) (λ u. run_loop n p t f u) (λ u. run_loop m p t g u) (h s) (λ u. loop_same n m p t f g (omega arith) h u)))

run_same : (n m : ℕ) → n ≤ m → (d : Stmt) (s : State) → Same (run n d s) (run m d s)
unfolding run
run_same n m l skip s = refl
run_same n m l (assign p x e) s = same_self (run n (assign p x e) s)
run_same n m l (store p r a e) s = same_self (run n (store p r a e) s)
run_same n m l (input p x a b) s = refl
run_same n m l (check p t) s = same_self (run n (check p t) s)
run_same n m l (seq a b) s = same_then (run n a s) (run m a s) (λ u. run n b u) (λ u. run m b u) (run_same n m l a s) (λ u. run_same n m l b u)
run_same n m l (branch p t a b) s =
    same_or_fault p (eval_test s t) (λ k. cond (eqb k 0) (run n b s) (run n a s)) (λ k. cond (eqb k 0) (run m b s) (run m a s))
    (λ k. same_cond (eqb k 0) (run n b s) (run n a s) (run m b s) (run m a s) (run_same n m l b s) (run_same n m l a s))
run_same n m l (loop p t a) s = loop_same n m p t (λ u. run n a u) (λ u. run m a u) l (λ u. run_same n m l a u) s

same_not_out : (x y : Outcome) → Same x y → ran_out x ≡ false → y ≡ x
unfolding ran_out
same_not_out (finished s) y e h = e
same_not_out (fault p k) y e h = e
same_not_out out_of_rounds y e h = absurd (grind arith)

pub more_rounds_same : MoreRoundsSame
unfolding MoreRoundsSame
more_rounds_same n k p inputs h =
    same_not_out (run n p.body (initial p inputs)) (run (k + n) p.body (initial p inputs)) (run_same n (k + n) (omega arith) p.body (initial p inputs)) h

-- without loops the number of rounds does not matter
pub any_rounds : (ns ms : List ℕ) (n m : ℕ) (d : Stmt) (h : Abstract) → loop_free d ≡ true → analyse ns ms n d h ≡ analyse ns ms m d h
unfolding analyse loop_free if_reached
any_rounds ns ms n m skip h e = refl
any_rounds ns ms n m (assign p x i) h e = refl
any_rounds ns ms n m (store p r a i) h e = refl
any_rounds ns ms n m (input p x a b) h e = refl
any_rounds ns ms n m (check p t) h e = refl
any_rounds ns ms n m (seq a b) h e =
    let (x, y) = and_parts (loop_free a) (loop_free b) e in
    rw (any_rounds ns ms n m a h x, any_rounds ns ms n m b (analyse ns ms m a h).out y) refl
any_rounds ns ms n m (branch p t a b) unreached e = refl
any_rounds ns ms n m (branch p t a b) (reached w) e =
    let (x, y) = and_parts (loop_free a) (loop_free b) e in
    rw (any_rounds ns ms n m a (assume ns true t w) x, any_rounds ns ms n m b (assume ns false t w) y) refl
any_rounds ns ms n m (loop p t a) h e = absurd (grind arith)

pub loop_free_same : LoopFreeSame
unfolding LoopFreeSame
loop_free_same n p h e = any_rounds p.arrays (thresholds p) n 0 p.body h e
