-- What is known of a program's variables and arrays where one of its statements begins. Assumes nothing: these are definitions.
use Rattle.std.specs.Prelude.{◌≡◌, ℕ, List, Some, None, Option}
use Rattle.program.specs.Syntax.{Program}
use Rattle.program.specs.Command.{load}
use Rattle.analysis.specs.Reach.{unreached, reached}
use Rattle.analysis.specs.AbstractState.{Abstract}
use Rattle.analysis.specs.Thresholds.{thresholds}
use Rattle.analysis.specs.Whole.{round_limit}
use Rattle.reader.specs.Request.{EncodingOf}
use Rattle.state.specs.declared.types.Abstract.{Abstract as CodeAbstract}
use Rattle.state.specs.Change.{initial_env}
use Rattle.state.specs.Of.{as_abstract}
use Rattle.watch.specs.Watch.{watch}

-- what the plain analyser's last pass knows where statement k begins; unreached if nothing comes there, or the program has no such statement
abbrev pub known_before : Program → ℕ → Abstract
known_before p k = watch p.arrays (thresholds p) (round_limit p) k p.body (reached initial_env) unreached

-- what is known where statement k of the valid program begins that the text loads; none if it loads no valid program
abbrev pub Known : List ℕ → ℕ → Option CodeAbstract → Type 0
Known text k (Some h) = (p : Program) × (EncodingOf (load p) text × (as_abstract h ≡ known_before p k))
Known text k None = (p : Program) → EncodingOf (load p) text → ⊥
