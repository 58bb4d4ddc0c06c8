-- What is found when a whole program is run. Assumes nothing: these are definitions.
use Rattle.std.specs.Prelude.{◌≡◌, ℕ, List, Ok, Err, Result}
use Rattle.program.specs.Syntax.{Program}
use Rattle.program.specs.Semantics.{Outcome as PlainOutcome, finished, fault, out_of_rounds, run_program}
use Rattle.runner.specs.Of.{as_state}
use Rattle.runner.specs.Starting.{Loads}
use Rattle.runner.specs.declared.types.Outcome.{Outcome}
use Rattle.runner.specs.declared.types.Outcome.TheVariants.{Finished, Fault, OutOfRounds}
use Rattle.runner.specs.declared.types.RunError.{RunError}
use Rattle.runner.specs.declared.types.RunError.TheVariants.{NoMemory, NoProgram}

-- the outcome of a run on these inputs
abbrev pub as_outcome : List ℕ → Outcome → PlainOutcome
as_outcome ins (Finished m) = finished (as_state ins m)
as_outcome ins (Fault p k) = fault p k
as_outcome ins OutOfRounds = out_of_rounds

-- of every valid program that the text loads, the outcome is that of its run; without memory nothing is said, and a text that is refused loads no program
abbrev pub ProgramRuns : List ℕ → List ℕ → ℕ → Result Outcome RunError → Type 0
ProgramRuns text ins rounds (Ok o) = (p : Program) → Loads text p → as_outcome ins o ≡ run_program rounds p ins
ProgramRuns text ins rounds (Err NoMemory) = Unit {0}
ProgramRuns text ins rounds (Err NoProgram) = (p : Program) → Loads text p → ⊥
