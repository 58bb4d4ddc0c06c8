-- What is said of statements without parts. Assumes nothing: these are definitions.
use Rattle.std.specs.Prelude.{ℕ, ◌+◌, List, length}
use Rattle.program.specs.Syntax.{Stmt}
use Rattle.program.specs.Encoding.{encode_stmt}
use Rattle.state.specs.declared.types.Abstract.{Abstract}
use Rattle.state.specs.Of.{as_abstract}
use Rattle.walker.specs.declared.types.Task.{Task}
use Rattle.walker.specs.Ready.{StmtReady}
use Rattle.walker.specs.Walk.{Walked}

-- any statement of a kind that is ready at pos is walked through from state h and table t to h₁ and t₁, whatever the thresholds and the rounds
abbrev pub Passes : Task → (pos left : ℕ) → (List ℕ → ℕ → Stmt → Type 0) → (h : Abstract) (t : List ℕ) (h₁ : Abstract) (t₁ : List ℕ) (r : ℕ) → Type 0
Passes task pos left Kind h t h₁ t₁ r =
    (n : ℕ) (ms : List ℕ) (d : Stmt) → StmtReady task.text.now pos left d → Kind task.text.now pos d →
    Walked (pos + length (encode_stmt d)) task.lengths.now ms n (as_abstract h) t (as_abstract h₁) t₁ d r
