-- What is found where an expression, a test or a statement stands. Assumes nothing: these are definitions.
use Rattle.std.specs.Prelude.{◌≡◌, ℕ, Ok, Err, Result}
use Rattle.program.specs.declared.fault.Fault.{Fault}
use Rattle.program.specs.Kinds.{fault_number}
use Rattle.program.specs.Semantics.{Evaluated, value, failed, bind_value, truth, State, Outcome, finished, fault, out_of_rounds, or_fault}
use Rattle.runner.specs.declared.types.EvalError.{EvalError}
use Rattle.runner.specs.declared.types.EvalError.TheVariants.{Fault as Failed, NoProgram as NoPart}
use Rattle.runner.specs.declared.types.Value.{Value}
use Rattle.runner.specs.declared.types.Pair.{Pair}
use Rattle.runner.specs.declared.types.Verdict.{Verdict}
use Rattle.runner.specs.declared.types.Stop.{Stop}
use Rattle.runner.specs.declared.types.Stop.TheVariants.{Fault as FaultAt, OutOfRounds, NoProgram as NoStmt}

-- a number or a fault
abbrev pub as_evaluated : Result ℕ Fault → Evaluated
as_evaluated (Ok n) = value n
as_evaluated (Err f) = failed (fault_number f)

-- w is no value but this fault; what comes to anything is not refused
abbrev pub FailsBy : Evaluated → EvalError → Type 0
FailsBy w (Failed f) = w ≡ failed (fault_number f)
FailsBy w NoPart = ⊥

-- the value w, and the end of what was read
pub record ValueFound (stop : ℕ) (w : Evaluated) (v : Value) : Type 0 where
  pub is : w ≡ value v.value
  pub end : v.end ≡ stop

abbrev pub Evaluates : ℕ → Evaluated → Result Value EvalError → Type 0
Evaluates stop w (Ok v) = ValueFound stop w v
Evaluates stop w (Err e) = FailsBy w e

-- the values v and w, and the end of what was read
pub record PairFound (stop : ℕ) (v w : Evaluated) (p : Pair) : Type 0 where
  pub first_is : v ≡ value p.first
  pub second_is : w ≡ value p.second
  pub end : p.end ≡ stop

abbrev pub Pairs : ℕ → Evaluated → Evaluated → Result Pair EvalError → Type 0
Pairs stop v w (Ok p) = PairFound stop v w p
Pairs stop v w (Err e) = (f : ℕ → ℕ → Evaluated) → FailsBy (bind_value v (λ n. bind_value w (λ m. f n m))) e

-- the verdict w, and the end of what was read
pub record VerdictFound (stop : ℕ) (w : Evaluated) (v : Verdict) : Type 0 where
  pub is : w ≡ value (truth v.holds)
  pub end : v.end ≡ stop

abbrev pub Tests : ℕ → Evaluated → Result Verdict EvalError → Type 0
Tests stop w (Ok v) = VerdictFound stop w v
Tests stop w (Err e) = FailsBy w e

-- a run that was stopped ended as o; what is a statement is not refused
abbrev pub StoppedBy : Outcome → Stop → Type 0
StoppedBy o (FaultAt p f) = o ≡ fault p (fault_number f)
StoppedBy o OutOfRounds = o ≡ out_of_rounds
StoppedBy o NoStmt = ⊥

-- what was found in the statement p, or its stop for the same reason
abbrev pub stop_at : {A : Type 0} → ℕ → Result A EvalError → Result A Stop
stop_at p (Ok v) = Ok v
stop_at p (Err (Failed f)) = Err (FaultAt p f)
stop_at p (Err NoPart) = Err NoStmt

-- a statement p whose value is w goes on with it, or has stopped
abbrev pub VerdictOrStop : ℕ → ℕ → Evaluated → Result Verdict Stop → Type 0
VerdictOrStop p stop w (Ok v) = VerdictFound stop w v
VerdictOrStop p stop w (Err x) = (f : ℕ → Outcome) → StoppedBy (or_fault p w f) x

-- the run ended in the state s₁, and the end of what was read
pub record Finishes (stop : ℕ) (o : Outcome) (s₁ : State) (last : ℕ) : Type 0 where
  pub is : o ≡ finished s₁
  pub end : last ≡ stop

-- a run that ended as o did so in the state s₁, or was stopped
abbrev pub Runs : ℕ → Outcome → State → Result ℕ Stop → Type 0
Runs stop o s₁ (Ok last) = Finishes stop o s₁ last
Runs stop o s₁ (Err x) = StoppedBy o x
