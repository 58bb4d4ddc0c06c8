-- What the code finds at each kind of test is what the definitions say.
use Rattle.std.proofs.Common.{◌≡◌, ℕ, Bool, true, false, not, eqb, ltb, List, Result, ap, ◌∙◌, subst}
use Rattle.program.specs.Syntax.{Test}
use Rattle.program.specs.Semantics.{State, Evaluated, value, bind_value, truth, eval, eval_test}
use Rattle.encoding.specs.Parts.{LessAt, EqualAt, NotAt, AndAt, OrAt}
use Rattle.runner.specs.Found.{FailsBy, Tests}
use Rattle.runner.specs.declared.types.EvalError.{EvalError}
use Rattle.runner.specs.declared.types.Verdict.{Verdict}
use Rattle.runner.proofs.Expressions.{binds, fails_as, fails_on}

pub tests_as : (stop stop₁ : ℕ) (w w₁ : Evaluated) (r : Result Verdict EvalError) → stop ≡ stop₁ → w ≡ w₁ → Tests stop w r → Tests stop₁ w₁ r
tests_as stop stop₁ w w₁ r e f h = subst (λ (v : Evaluated). Tests stop₁ v r) f (subst (λ (k : ℕ). Tests k w r) e h)

-- one of two expressions comes to nothing
abbrev pub TwoFail : Evaluated → Evaluated → EvalError → Type 0
TwoFail v w e = (f : ℕ → ℕ → Evaluated) → FailsBy (bind_value v (λ n. bind_value w (λ m. f n m))) e

module _ (s : State) where
  as_eval : (t u : Test) → t ≡ u → eval_test s t ≡ eval_test s u
  as_eval t u e = ap (λ (x : Test). eval_test s x) e

  pub less_fails : (text : List ℕ) (pos : ℕ) (t : Test) → (h : LessAt text pos t) → (e : EvalError) → TwoFail (eval s h.a) (eval s h.b) e → FailsBy (eval_test s t) e
  unfolding eval_test
  less_fails text pos t h e g = fails_as (eval_test s t) _ e (as_eval t _ h.is) (g (λ n m. value (truth (ltb n m))))

  pub less_holds : (text : List ℕ) (pos : ℕ) (t : Test) → (h : LessAt text pos t) → (n m : ℕ) → eval s h.a ≡ value n → eval s h.b ≡ value m → eval_test s t ≡ value (truth (ltb n m))
  unfolding eval_test
  less_holds text pos t h n m a b = as_eval t _ h.is ∙ binds (eval s h.a) _ n a ∙ binds (eval s h.b) _ m b

  pub equal_fails : (text : List ℕ) (pos : ℕ) (t : Test) → (h : EqualAt text pos t) → (e : EvalError) → TwoFail (eval s h.a) (eval s h.b) e → FailsBy (eval_test s t) e
  unfolding eval_test
  equal_fails text pos t h e g = fails_as (eval_test s t) _ e (as_eval t _ h.is) (g (λ n m. value (truth (eqb n m))))

  pub equal_holds : (text : List ℕ) (pos : ℕ) (t : Test) → (h : EqualAt text pos t) → (n m : ℕ) → eval s h.a ≡ value n → eval s h.b ≡ value m → eval_test s t ≡ value (truth (eqb n m))
  unfolding eval_test
  equal_holds text pos t h n m a b = as_eval t _ h.is ∙ binds (eval s h.a) _ n a ∙ binds (eval s h.b) _ m b

  pub not_fails : (text : List ℕ) (pos : ℕ) (t : Test) → (h : NotAt text pos t) → (e : EvalError) → FailsBy (eval_test s h.t) e → FailsBy (eval_test s t) e
  unfolding eval_test
  not_fails text pos t h e g = fails_as (eval_test s t) _ e (as_eval t _ h.is) (fails_on (eval_test s h.t) _ e g)

  pub not_holds : (text : List ℕ) (pos : ℕ) (t : Test) → (h : NotAt text pos t) → (b : Bool) → eval_test s h.t ≡ value (truth b) → eval_test s t ≡ value (truth (not b))
  unfolding eval_test
  not_holds text pos t h true g = as_eval t _ h.is ∙ binds (eval_test s h.t) _ 1 g
  not_holds text pos t h false g = as_eval t _ h.is ∙ binds (eval_test s h.t) _ 0 g

  pub and_fails : (text : List ℕ) (pos : ℕ) (t : Test) → (h : AndAt text pos t) → (e : EvalError) → FailsBy (eval_test s h.t) e → FailsBy (eval_test s t) e
  unfolding eval_test
  and_fails text pos t h e g = fails_as (eval_test s t) _ e (as_eval t _ h.is) (fails_on (eval_test s h.t) _ e g)

  pub and_stops : (text : List ℕ) (pos : ℕ) (t : Test) → (h : AndAt text pos t) → (b : Bool) → b ≡ false → eval_test s h.t ≡ value (truth b) → eval_test s t ≡ value 0
  unfolding eval_test
  and_stops text pos t h b e g = as_eval t _ h.is ∙ binds (eval_test s h.t) _ 0 (g ∙ ap (λ (x : Bool). value (truth x)) e)

  pub and_goes : (text : List ℕ) (pos : ℕ) (t : Test) → (h : AndAt text pos t) → (b : Bool) → b ≡ true → eval_test s h.t ≡ value (truth b) → eval_test s t ≡ eval_test s h.u
  unfolding eval_test
  and_goes text pos t h b e g = as_eval t _ h.is ∙ binds (eval_test s h.t) _ 1 (g ∙ ap (λ (x : Bool). value (truth x)) e)

  pub or_fails : (text : List ℕ) (pos : ℕ) (t : Test) → (h : OrAt text pos t) → (e : EvalError) → FailsBy (eval_test s h.t) e → FailsBy (eval_test s t) e
  unfolding eval_test
  or_fails text pos t h e g = fails_as (eval_test s t) _ e (as_eval t _ h.is) (fails_on (eval_test s h.t) _ e g)

  pub or_stops : (text : List ℕ) (pos : ℕ) (t : Test) → (h : OrAt text pos t) → (b : Bool) → b ≡ true → eval_test s h.t ≡ value (truth b) → eval_test s t ≡ value 1
  unfolding eval_test
  or_stops text pos t h b e g = as_eval t _ h.is ∙ binds (eval_test s h.t) _ 1 (g ∙ ap (λ (x : Bool). value (truth x)) e)

  pub or_goes : (text : List ℕ) (pos : ℕ) (t : Test) → (h : OrAt text pos t) → (b : Bool) → b ≡ false → eval_test s h.t ≡ value (truth b) → eval_test s t ≡ eval_test s h.u
  unfolding eval_test
  or_goes text pos t h b e g = as_eval t _ h.is ∙ binds (eval_test s h.t) _ 0 (g ∙ ap (λ (x : Bool). value (truth x)) e)
