-- How each kind of statement runs, from what its parts come to. Rests on the definitions alone.
use Rattle.std.proofs.Common.{◌≡◌, ℕ, zero, suc, ◌+◌, ◌<◌, Bool, true, false, cond, not, eqb, Ok, Err, Result, sym, refl, ap, ◌∙◌, subst, arith}
use Rattle.program.specs.Kinds.{fault_number}
use Rattle.program.specs.declared.fault.Fault.{Fault}
use Rattle.program.specs.Syntax.{Expr, Test, Stmt, skip, assign, store, input, check, seq, branch, loop}
use Rattle.program.specs.Semantics.{State, Evaluated, value, failed, bind_value, truth, eval, eval_test, with_value, take_input, Outcome, finished, fault, out_of_rounds, or_fault, and_then, run_loop, run}
use Rattle.runner.specs.Changes.{has_element, with_element, Stored}
use Rattle.runner.specs.Found.{FailsBy, Tests, stop_at, VerdictOrStop, StoppedBy, Runs}
use Rattle.runner.specs.Running.{VerdictAt}
use Rattle.runner.specs.Working.{TestsAt}
use Rattle.runner.specs.declared.types.EvalError.{EvalError}
use Rattle.runner.specs.declared.types.EvalError.TheVariants.{Fault as Failed, NoProgram as NoPart}
use Rattle.runner.specs.declared.types.State.{State as Memory}
use Rattle.runner.specs.declared.types.Stop.{Stop}
use Rattle.runner.specs.declared.types.Stop.TheVariants.{Fault as FaultAt, OutOfRounds, NoProgram as NoStmt}
use Rattle.runner.specs.declared.types.Task.{Task}
use Rattle.runner.specs.declared.types.Verdict.{Verdict}
use Rattle.runner.proofs.Tests.{TwoFail}

-- the same run, and the same end
pub runs_as : (stop stop₁ : ℕ) (o o₁ : Outcome) (s : State) (r : Result ℕ Stop) → stop₁ ≡ stop → o₁ ≡ o → Runs stop o s r → Runs stop₁ o₁ s r
runs_as stop stop₁ o o₁ s r e f h = subst (λ (q : Outcome). Runs stop₁ q s r) (sym f) (subst (λ (k : ℕ). Runs k o s r) (sym e) h)

pub run_same : (n : ℕ) (s : State) (d d₁ : Stmt) → d ≡ d₁ → run n d s ≡ run n d₁ s
run_same n s d d₁ e = ap (λ (x : Stmt). run n x s) e

pub not_true : (b : Bool) → not b ≡ true → b ≡ false
not_true true e = sym e
not_true false e = refl

pub not_false : (b : Bool) → not b ≡ false → b ≡ true
not_false true e = refl
not_false false e = sym e

-- a value or a fault of a statement

goes : (p : ℕ) (w : Evaluated) (f : ℕ → Outcome) (n : ℕ) → w ≡ value n → or_fault p w f ≡ f n
unfolding or_fault
goes p w f n e = ap (λ (v : Evaluated). or_fault p v f) e

stops : (p : ℕ) (w : Evaluated) (k : ℕ) → w ≡ failed k → (f : ℕ → Outcome) → or_fault p w f ≡ fault p k
unfolding or_fault
stops p w k e f = ap (λ (v : Evaluated). or_fault p v f) e

-- every way to go on from w stops for this reason
abbrev pub Stops : ℕ → Evaluated → Stop → Type 0
Stops p w x = (f : ℕ → Outcome) → StoppedBy (or_fault p w f) x

pub stopped_as : (o o₁ : Outcome) (x : Stop) → o ≡ o₁ → StoppedBy o₁ x → StoppedBy o x
stopped_as o o₁ x e h = subst (λ (q : Outcome). StoppedBy q x) (sym e) h

-- of two expressions
two_stop : (p : ℕ) (v w : Evaluated) (k : ℕ) (g : ℕ → ℕ → Outcome) → ((f : ℕ → ℕ → Evaluated) → bind_value v (λ n. bind_value w (λ m. f n m)) ≡ failed k) → or_fault p v (λ i. or_fault p w (λ j. g i j)) ≡ fault p k
unfolding or_fault bind_value
two_stop p (failed j) w k g h = let e : failed j ≡ failed k = h (λ n m. value 0) in cc
two_stop p (value i) (failed j) k g h = let e : failed j ≡ failed k = h (λ n m. value 0) in cc
two_stop p (value i) (value j) k g h = let e : value 0 ≡ failed k = h (λ n m. value 0) in cc

-- what was found goes on, or has stopped for the same reason

verdict_or_stop : (p stop : ℕ) (w : Evaluated) (r : Result Verdict EvalError) (r₁ : Result Verdict Stop) → Tests stop w r → r₁ ≡ stop_at p r → VerdictOrStop p stop w r₁
verdict_or_stop p stop w (Ok v) r₁ h e = subst (λ (x : Result Verdict Stop). VerdictOrStop p stop w x) (sym e) h
verdict_or_stop p stop w (Err (Failed f)) r₁ h e = subst (λ (x : Result Verdict Stop). VerdictOrStop p stop w x) (sym e) (stops p w (fault_number f) h)
verdict_or_stop p stop w (Err NoPart) r₁ h e = absurd h

-- an error of what is worked out is the statement's stop
runs_stop : (p : ℕ) (w : Evaluated) (f : ℕ → Outcome) (stop : ℕ) (s : State) (e : EvalError) → FailsBy w e → Runs stop (or_fault p w f) s (stop_at p (Err e))
runs_stop p w f stop s (Failed k) h = stops p w (fault_number k) h f
runs_stop p w f stop s NoPart h = absurd h

-- of two expressions
two_runs_stop : (p : ℕ) (v w : Evaluated) (g : ℕ → ℕ → Outcome) (stop : ℕ) (s : State) (e : EvalError) → TwoFail v w e →
    Runs stop (or_fault p v (λ i. or_fault p w (λ j. g i j))) s (stop_at p (Err e))
two_runs_stop p v w g stop s (Failed k) h = two_stop p v w (fault_number k) g h
two_runs_stop p v w g stop s NoPart h = absurd (h (λ n m. value 0))

pub verdict_at : (task : Task) (m : Memory) (p pos left : ℕ) (r : Result Verdict EvalError) (r₁ : Result Verdict Stop) → TestsAt task.text.now m pos left r → r₁ ≡ stop_at p r → VerdictAt task m p pos left r₁
verdict_at task m p pos left r r₁ h e ins t ready = verdict_or_stop p _ _ r r₁ (h ins t ready) e

module _ (n : ℕ) (s : State) where
  pub skip_runs : (d : Stmt) → d ≡ skip → run n d s ≡ finished s
  unfolding run
  skip_runs d e = ap (λ (x : Stmt). run n x s) e

  pub assign_stops : (p x : ℕ) (e : Expr) (stop : ℕ) (s₁ : State) (y : EvalError) → FailsBy (eval s e) y → Runs stop (run n (assign p x e) s) s₁ (stop_at p (Err y))
  unfolding run
  assign_stops p x e stop s₁ y h = runs_stop p (eval s e) (λ v. finished (with_value s x v)) stop s₁ y h

  pub assign_runs : (p x y : ℕ) (e : Expr) (v : ℕ) (s₁ : State) → x ≡ y → eval s e ≡ value v → s₁ ≡ with_value s x v → run n (assign p y e) s ≡ finished s₁
  unfolding run
  assign_runs p x y e v s₁ i h k = goes p (eval s e) (λ u. finished (with_value s y u)) v h ∙ ap finished (sym (k ∙ ap (λ (z : ℕ). with_value s z v) i))

  pub store_stops : (p r : ℕ) (a e : Expr) (stop : ℕ) (s₁ : State) (y : EvalError) → TwoFail (eval s a) (eval s e) y → Runs stop (run n (store p r a e) s) s₁ (stop_at p (Err y))
  unfolding run
  store_stops p r a e stop s₁ y h =
      two_runs_stop p (eval s a) (eval s e) (λ i v. cond (has_element s r i) (finished (with_element s r i v)) (fault p 3)) stop s₁ y h

  pub store_none : (p r q : ℕ) (a e : Expr) (i v : ℕ) (f : Fault) (s₁ : State) → r ≡ q → eval s a ≡ value i → eval s e ≡ value v → Stored s r i v (Err f) s₁ →
      run n (store p q a e) s ≡ fault p (fault_number f)
  unfolding run
  store_none p r q a e i v f s₁ is g h k =
      goes p (eval s a) _ i g ∙ goes p (eval s e) _ v h
      ∙ ap (λ (c : Bool). cond c (finished (with_element s q i v)) (fault p 3)) (ap (λ (z : ℕ). has_element s z i) (sym is) ∙ k.0) ∙ ap (λ (x : Fault). fault p (fault_number x)) (sym k.1)

  pub store_runs : (p r q : ℕ) (a e : Expr) (i v : ℕ) (d : Unit {0}) (s₁ : State) → r ≡ q → eval s a ≡ value i → eval s e ≡ value v → Stored s r i v (Ok d) s₁ →
      run n (store p q a e) s ≡ finished s₁
  unfolding run
  store_runs p r q a e i v d s₁ is g h k =
      goes p (eval s a) _ i g ∙ goes p (eval s e) _ v h
      ∙ ap (λ (c : Bool). cond c (finished (with_element s q i v)) (fault p 3)) (ap (λ (z : ℕ). has_element s z i) (sym is) ∙ k.0)
      ∙ ap finished (sym (k.1 ∙ ap (λ (z : ℕ). with_element s z i v) is))

  pub input_runs : (p x y a c b d : ℕ) (s₁ : State) → x ≡ y → a ≡ c → b ≡ d → s₁ ≡ take_input s x a b → run n (input p y c d) s ≡ finished s₁
  unfolding run
  input_runs p x y a c b d s₁ is low high k =
      ap finished (sym (k ∙ ap (λ (z : ℕ). take_input s z a b) is ∙ ap (λ (z : ℕ). take_input s y z b) low ∙ ap (λ (z : ℕ). take_input s y c z) high))

  pub check_stops : (p : ℕ) (t : Test) (stop : ℕ) (s₁ : State) (y : EvalError) → FailsBy (eval_test s t) y → Runs stop (run n (check p t) s) s₁ (stop_at p (Err y))
  unfolding run
  check_stops p t stop s₁ y h = runs_stop p (eval_test s t) (λ k. cond (eqb k 0) (fault p 4) (finished s)) stop s₁ y h

  pub check_holds : (p : ℕ) (t : Test) (b : Bool) → eval_test s t ≡ value (truth b) → b ≡ true → run n (check p t) s ≡ finished s
  unfolding run
  check_holds p t b h e = goes p (eval_test s t) _ 1 (h ∙ ap (λ (c : Bool). value (truth c)) e)

  pub check_fails : (p : ℕ) (t : Test) (b : Bool) → eval_test s t ≡ value (truth b) → b ≡ false → run n (check p t) s ≡ fault p 4
  unfolding run
  check_fails p t b h e = goes p (eval_test s t) _ 0 (h ∙ ap (λ (c : Bool). value (truth c)) e)

  pub branch_stops : (p : ℕ) (t : Test) (a b : Stmt) (x : Stop) → Stops p (eval_test s t) x → StoppedBy (run n (branch p t a b) s) x
  unfolding run
  branch_stops p t a b x h = h (λ k. cond (eqb k 0) (run n b s) (run n a s))

  pub branch_yes : (p : ℕ) (t : Test) (a b : Stmt) (c : Bool) → eval_test s t ≡ value (truth c) → c ≡ true → run n (branch p t a b) s ≡ run n a s
  unfolding run
  branch_yes p t a b c h e = goes p (eval_test s t) (λ k. cond (eqb k 0) (run n b s) (run n a s)) 1 (h ∙ ap (λ (x : Bool). value (truth x)) e)

  pub branch_no : (p : ℕ) (t : Test) (a b : Stmt) (c : Bool) → eval_test s t ≡ value (truth c) → c ≡ false → run n (branch p t a b) s ≡ run n b s
  unfolding run
  branch_no p t a b c h e = goes p (eval_test s t) (λ k. cond (eqb k 0) (run n b s) (run n a s)) 0 (h ∙ ap (λ (x : Bool). value (truth x)) e)

-- one behind the other

then_stops : (o : Outcome) (f : State → Outcome) (x : Stop) → StoppedBy o x → StoppedBy (and_then o f) x
unfolding and_then
then_stops o f (FaultAt p k) e = ap (λ (q : Outcome). and_then q f) e
then_stops o f OutOfRounds e = ap (λ (q : Outcome). and_then q f) e
then_stops o f NoStmt e = e

then_goes : (o : Outcome) (f : State → Outcome) (s : State) → o ≡ finished s → and_then o f ≡ f s
unfolding and_then
then_goes o f s e = ap (λ (q : Outcome). and_then q f) e

pub seq_stops : (n : ℕ) (s : State) (a b : Stmt) (x : Stop) → StoppedBy (run n a s) x → StoppedBy (run n (seq a b) s) x
unfolding run
seq_stops n s a b x e = then_stops (run n a s) (λ u. run n b u) x e

pub seq_goes : (n : ℕ) (s : State) (a b : Stmt) (s₁ : State) → run n a s ≡ finished s₁ → run n (seq a b) s ≡ run n b s₁
unfolding run
seq_goes n s a b s₁ e = then_goes (run n a s) (λ u. run n b u) s₁ e

-- a loop with some rounds left

module _ (p : ℕ) (t : Test) (f : State → Outcome) (s : State) where
  pub loop_stops : (m : ℕ) (x : Stop) → 0 < m → Stops p (eval_test s t) x → StoppedBy (run_loop m p t f s) x
  unfolding run_loop
  loop_stops zero x l h = absurd (omega arith)
  loop_stops (suc m) x l h = h (λ k. cond (eqb k 0) (finished s) (and_then (f s) (λ u. run_loop m p t f u)))

  pub loop_ends : (m : ℕ) (b : Bool) → 0 < m → eval_test s t ≡ value (truth b) → b ≡ false → run_loop m p t f s ≡ finished s
  unfolding run_loop
  loop_ends zero b l h e = absurd (omega arith)
  loop_ends (suc m) b l h e = goes p (eval_test s t) (λ k. cond (eqb k 0) (finished s) (and_then (f s) (λ u. run_loop m p t f u))) 0 (h ∙ ap (λ (c : Bool). value (truth c)) e)

  turns : (m : ℕ) (b : Bool) → eval_test s t ≡ value (truth b) → b ≡ true → run_loop (suc m) p t f s ≡ and_then (f s) (λ u. run_loop m p t f u)
  unfolding run_loop
  turns m b h e = goes p (eval_test s t) (λ k. cond (eqb k 0) (finished s) (and_then (f s) (λ u. run_loop m p t f u))) 1 (h ∙ ap (λ (c : Bool). value (truth c)) e)

  pub loop_breaks : (m : ℕ) (b : Bool) (x : Stop) → 0 < m → eval_test s t ≡ value (truth b) → b ≡ true → StoppedBy (f s) x → StoppedBy (run_loop m p t f s) x
  loop_breaks zero b x l h e g = absurd (omega arith)
  loop_breaks (suc m) b x l h e g = stopped_as (run_loop (suc m) p t f s) _ x (turns m b h e) (then_stops (f s) (λ u. run_loop m p t f u) x g)

  pub rounds_as : (m n : ℕ) → m ≡ n → run_loop m p t f s ≡ run_loop n p t f s
  rounds_as m n e = ap (λ (k : ℕ). run_loop k p t f s) e

  pub loop_again : (m n : ℕ) (b : Bool) (s₁ : State) → m ≡ n + 1 → eval_test s t ≡ value (truth b) → b ≡ true → f s ≡ finished s₁ → run_loop n p t f s₁ ≡ run_loop m p t f s
  loop_again m n b s₁ l h e g = sym (rounds_as m (suc n) (omega arith) ∙ turns n b h e ∙ then_goes (f s) (λ u. run_loop n p t f u) s₁ g)

pub loop_out : (p : ℕ) (t : Test) (f : State → Outcome) (s : State) (m : ℕ) → m ≡ 0 → run_loop m p t f s ≡ out_of_rounds
unfolding run_loop
loop_out p t f s m e = ap (λ (k : ℕ). run_loop k p t f s) e

pub loop_runs : (n : ℕ) (s : State) (p : ℕ) (t : Test) (a : Stmt) → run n (loop p t a) s ≡ run_loop n p t (λ u. run n a u) s
unfolding run
loop_runs n s p t a = refl
