-- What a session's answers tell of the ends of runs. Assumes nothing: these are definitions.
use Rattle.std.specs.Prelude.{◌≡◌, ℕ, ◌<◌, List, [], ◌∷◌, length, Some, None, Option, slice_index, slice_index_or}
use Rattle.program.specs.Syntax.{Program}
use Rattle.program.specs.Semantics.{State, finished, run_program}
use Rattle.session.specs.declared.rows.Row.{Row}
use Rattle.findings.specs.Told.{InRow}

-- the first row, if there is one
abbrev pub first_of : List Row → Option Row
first_of [] = None
first_of (r ∷ rs) = Some r

-- whatever the variable ends with in some run of the program lies within the row's bounds
abbrev pub EndsAt : Program → ℕ → Option Row → Type 0
EndsAt p x row = (n : ℕ) (inputs : List ℕ) (s : State) → run_program n p inputs ≡ finished s → InRow row (slice_index s.values x)

-- there are so many rows, and each does so for its variable
pub record AllEnds (p : Program) (n : ℕ) (rows : List (Option Row)) : Type 0 where
  pub count : length rows ≡ n
  pub each : (x : ℕ) → x < n → EndsAt p x (slice_index_or rows x None)
