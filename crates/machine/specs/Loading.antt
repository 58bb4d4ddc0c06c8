-- What the analysis of a statement from all 0 leaves. Assumes nothing: these are definitions.
use Rattle.std.specs.Prelude.{◌≡◌, ℕ, List}
use Rattle.program.specs.Syntax.{Stmt}
use Rattle.analysis.specs.Reach.{reached}
use Rattle.analysis.specs.AbstractState.{Abstract}
use Rattle.analysis.specs.Analyser.{analyse}
use Rattle.state.specs.Change.{initial_env}
use Rattle.walker.specs.Table.{Marked}

-- h is what is known at the end, and the alarms are marked in the table t, which becomes t₁
pub record BodyAnalysed (ns ms : List ℕ) (n : ℕ) (d : Stmt) (h : Abstract) (t t₁ : List ℕ) : Type 0 where
  pub out : h ≡ (analyse ns ms n d (reached initial_env)).out
  pub alarms : Marked (analyse ns ms n d (reached initial_env)).alarms t t₁
