-- What a domain must satisfy so that the analyser over it is sound, one law for each operation; and what sound means. Assumes nothing: these are definitions.
use Rattle.std.specs.Prelude.{◌≡◌, ℕ, zero, suc, Bool, true, false, List, nat_eq}
use Rattle.program.specs.Basics.{any}
use Rattle.program.specs.Syntax.{Test, Stmt, skip, assign, store, input, check, seq, branch, loop}
use Rattle.program.specs.Semantics.{State, Evaluated, value, failed, eval_test, Outcome, finished, fault, out_of_rounds, run}
use Rattle.analysis.specs.Reach.{Reach, Analysis, ReachedAnd, ReachedImplies}
use Rattle.analysis.specs.Concretisation.{has_alarm}
use Rattle.analysis.specs.Domain.{Domain, walk}

-- what a test comes to is told: its fault is among those told, and P holds of what is assumed of its outcome
abbrev pub TestTold : {K : Type 0} → (K → Type 0) → Reach K → Reach K → List ℕ → Evaluated → Type 0
TestTold P holds fails ks (failed k) = any (nat_eq k) ks ≡ true
TestTold P holds fails ks (value zero) = ReachedAnd P fails
TestTold P holds fails ks (value (suc zero)) = ReachedAnd P holds
TestTold P holds fails ks (value (suc (suc k))) = ⊥

-- what a run comes to is told: its end lies in what is known behind it, and its fault is an alarm
abbrev pub RunTold : {K : Type 0} → (State → K → Type 0) → Analysis K → Outcome → Type 0
RunTold γ a (finished s) = ReachedAnd (γ s) a.out
RunTold γ a (fault p k) = has_alarm a.alarms p k ≡ true
RunTold γ a out_of_rounds = Unit {0}

-- n steps of R lead from s to t
abbrev pub Steps : (State → State → Type 0) → ℕ → State → State → Type 0
Steps R zero s t = s ≡ t
Steps R (suc n) s t = (u : State) × Steps R n s u × R u t

-- every statement without parts in it satisfies fit
abbrev pub Each : (Stmt → Type 0) → Stmt → Type 0
Each fit skip = Unit {0}
Each fit (assign p x e) = fit (assign p x e)
Each fit (store p r a e) = fit (store p r a e)
Each fit (input p x a b) = fit (input p x a b)
Each fit (check p t) = fit (check p t)
Each fit (seq a b) = Each fit a × Each fit b
Each fit (branch p t a b) = Each fit a × Each fit b
Each fit (loop p t a) = Each fit a

-- γ says which states lie in what is known, good which of what may be known is well formed; fit says of which statements without parts the laws speak
pub record Lawful (D : Domain) (fit : Stmt → Type 0) : Type 1 where
  pub γ : State → D.Known → Type 0
  pub good : D.Known → Type 0
  pub simple_good : (d : Stmt) (w : D.Known) → fit d → good w → ReachedImplies good (D.simple d w).out
  pub simple_sound : (d : Stmt) (n : ℕ) (s : State) (w : D.Known) → fit d → good w → γ s w → RunTold γ (D.simple d w) (run n d s)
  pub assume_good : (outcome : Bool) (t : Test) (w : D.Known) → good w → ReachedImplies good (D.assume outcome t w)
  pub test_sound : (t : Test) (s : State) (w : D.Known) → good w → γ s w →
      TestTold (γ s) (D.assume true t w) (D.assume false t w) (D.faults t w) (eval_test s t)
  pub join_good : (h g : Reach D.Known) → ReachedImplies good h → ReachedImplies good g → ReachedImplies good (D.join h g)
  pub join_left : (s : State) (h g : Reach D.Known) → ReachedImplies good h → ReachedImplies good g → ReachedAnd (γ s) h → ReachedAnd (γ s) (D.join h g)
  pub join_right : (s : State) (h g : Reach D.Known) → ReachedImplies good h → ReachedImplies good g → ReachedAnd (γ s) g → ReachedAnd (γ s) (D.join h g)
  pub iterate_good : (f : Reach D.Known → Reach D.Known) (h : Reach D.Known) → ((g : Reach D.Known) → ReachedImplies good g → ReachedImplies good (f g)) →
      ReachedImplies good h → ReachedImplies good (D.iterate f h)
  -- a loop's invariant holds all that reach the loop's head, however it is found: it need not be inductive. R is one round
  pub iterate_sound : (R : State → State → Type 0) (f : Reach D.Known → Reach D.Known) (h : Reach D.Known) →
      ((g : Reach D.Known) → ReachedImplies good g → ReachedImplies good (f g)) → ReachedImplies good h →
      ((s : State) (g : Reach D.Known) → ReachedImplies good g → ReachedAnd (γ s) h → ReachedAnd (γ s) (f g)) →
      ((s t : State) (g : Reach D.Known) → ReachedImplies good g → ReachedAnd (γ s) g → R s t → ReachedAnd (γ t) (f g)) →
      (n : ℕ) (s t : State) → ReachedAnd (γ s) h → Steps R n s t → ReachedAnd (γ t) (D.iterate f h)

-- every run of a statement from a state that lies in h is told by one pass from h, over any lawful domain.
-- It speaks of all domains, which is too much for a contract: those of the plain analyser rest on it
unfoldable pub WalkSound : Type 1
WalkSound =
    (D : Domain) (fit : Stmt → Type 0) (L : Lawful D fit) (d : Stmt) → Each fit d →
    (n : ℕ) (s : State) (h : Reach D.Known) → ReachedImplies L.good h → ReachedAnd (L.γ s) h → RunTold L.γ (walk D d h) (run n d s)
