-- What a task's pass says of what stands at a position and takes at most `left` bytes. Assumes nothing: these are definitions. That thresholds
-- are in order is a premise here and no part of a task: whoever makes a task need not know it.
use Rattle.std.specs.Prelude.{ℕ, ◌+◌, List, length}
use Rattle.std.specs.List.Sorted.{IsNonDecreasing}
use Rattle.program.specs.Syntax.{Test, Stmt}
use Rattle.program.specs.Encoding.{encode_test, encode_stmt}
use Rattle.evaluate.specs.Ready.{TestReady}
use Rattle.state.specs.declared.types.Abstract.{Abstract}
use Rattle.state.specs.Of.{as_abstract}
use Rattle.walker.specs.declared.types.Task.{Task}
use Rattle.walker.specs.declared.types.Round.{Round}
use Rattle.walker.specs.Ready.{StmtReady}
use Rattle.walker.specs.Walk.{Walked, Settled, Rounded}

-- P holds of any statement that is ready at pos, and of where it ends
abbrev pub AtStmt : Task → (pos left : ℕ) → (Stmt → ℕ → Type 0) → Type 0
AtStmt task pos left P =
    (d : Stmt) → IsNonDecreasing task.thresholds.now → StmtReady task.text.now pos left d → P d (pos + length (encode_stmt d))

-- so of a loop's test and body
abbrev pub AtLoop : Task → (pos left : ℕ) → (Test → Stmt → ℕ → Type 0) → Type 0
AtLoop task pos left P =
    (t : Test) (a : Stmt) → IsNonDecreasing task.thresholds.now → TestReady task.text.now pos left t →
    StmtReady task.text.now (pos + length (encode_test t)) left a → P t a (pos + length (encode_test t) + length (encode_stmt a))

-- so of a choice's test and ways
abbrev pub AtBranch : Task → (pos left : ℕ) → (Test → Stmt → Stmt → ℕ → Type 0) → Type 0
AtBranch task pos left P =
    (t : Test) (a b : Stmt) → IsNonDecreasing task.thresholds.now → TestReady task.text.now pos left t →
    StmtReady task.text.now (pos + length (encode_test t)) left a →
    StmtReady task.text.now (pos + length (encode_test t) + length (encode_stmt a)) left b →
    P t a b (pos + length (encode_test t) + length (encode_stmt a) + length (encode_stmt b))

-- from state h and table t to h₁ and t₁, by statement d, which ends at stop
abbrev pub Walks : Task → (stop : ℕ) → Stmt → (h : Abstract) (t : List ℕ) (h₁ : Abstract) (t₁ : List ℕ) (r : ℕ) → Type 0
Walks task stop d h t h₁ t₁ r = Walked stop task.lengths.now task.thresholds.now task.rounds (as_abstract h) t (as_abstract h₁) t₁ d r

-- a loop's rounds from h on come to what was found; its body ends at stop
abbrev pub Settles : Task → (stop : ℕ) → Test → Stmt → (h : Abstract) → Round → Type 0
Settles task stop t a h r = Settled stop task.lengths.now task.thresholds.now task.rounds t a (as_abstract h) (as_abstract r.state) r.end

-- one round of a loop, from g on, joined with h
abbrev pub GoesRound : Task → (stop : ℕ) → Test → Stmt → (h g : Abstract) → Round → Type 0
GoesRound task stop t a h g r =
    Rounded stop task.lengths.now task.thresholds.now task.rounds t a (as_abstract h) (as_abstract g) (as_abstract r.state) r.end
