-- What a pass through a statement leaves: the state, the alarm table and the end of its bytes. Assumes nothing: these are definitions.
use Rattle.std.specs.Prelude.{◌≡◌, ℕ, ◌<◌, List}
use Rattle.program.specs.Syntax.{Test, Stmt}
use Rattle.analysis.specs.AbstractState.{Abstract}
use Rattle.analysis.specs.Iteration.{iterate}
use Rattle.analysis.specs.Analyser.{analyse}
use Rattle.analysis.specs.Clauses.{one_round}
use Rattle.walker.specs.Table.{Marked}

-- from state h and table t to h₁ and t₁, by statement d, which ends at stop
pub record Walked (stop : ℕ) (ns ms : List ℕ) (n : ℕ) (h : Abstract) (t : List ℕ) (h₁ : Abstract) (t₁ : List ℕ) (d : Stmt) (r : ℕ) : Type 0 where
  pub out : h₁ ≡ (analyse ns ms n d h).out
  pub alarms : Marked (analyse ns ms n d h).alarms t t₁
  pub end : r ≡ stop

-- a loop's rounds from h on come to inv; its body ends at stop
pub record Settled (stop : ℕ) (ns ms : List ℕ) (n : ℕ) (t : Test) (a : Stmt) (h inv : Abstract) (r : ℕ) : Type 0 where
  pub settles : inv ≡ iterate ms 4 n (one_round ns ms n t a h) h
  pub end : 0 < n → r ≡ stop

-- one round of a loop
pub record Rounded (stop : ℕ) (ns ms : List ℕ) (n : ℕ) (t : Test) (a : Stmt) (h g next : Abstract) (r : ℕ) : Type 0 where
  pub is : next ≡ one_round ns ms n t a h g
  pub end : r ≡ stop
