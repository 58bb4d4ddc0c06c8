-- What a watched pass says of what stands at a position. Assumes nothing: this is a definition.
use Rattle.std.specs.Prelude.{ℕ}
use Rattle.program.specs.Syntax.{Stmt}
use Rattle.state.specs.declared.types.Abstract.{Abstract}
use Rattle.state.specs.Of.{as_abstract}
use Rattle.watch.specs.declared.types.Watch.{Watch}
use Rattle.watch.specs.Watch.{Watched}

-- from state h, with s seen, to h₁ and s₁, by statement d, which ends at stop
abbrev pub Watches : Watch → (stop : ℕ) → Stmt → (h s h₁ s₁ : Abstract) (r : ℕ) → Type 0
Watches w stop d h s h₁ s₁ r =
    Watched stop w.task.lengths.now w.task.thresholds.now w.task.rounds w.stmt (as_abstract h) (as_abstract s) (as_abstract h₁) (as_abstract s₁) d r
