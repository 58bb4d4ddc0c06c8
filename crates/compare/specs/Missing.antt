-- What a report lacks. Assumes nothing: these are definitions.
use Rattle.std.specs.Prelude.{◌≡◌, ℕ, ◌<◌, Bool, true, false, List, [], length, Some, None, vec_items, Option, slice_index, slice_index_or}
use Rattle.runner.specs.Whole.{as_outcome}
use Rattle.runner.specs.declared.types.Outcome.{Outcome}
use Rattle.runner.specs.declared.types.Outcome.TheVariants.{Finished, Fault, OutOfRounds}
use Rattle.session.specs.Rows.{Has}
use Rattle.session.specs.declared.rows.Row.{Row}
use Rattle.session.specs.declared.rows.Row.TheVariants.{Alarm}
use Rattle.findings.specs.declared.Report.{Report}
use Rattle.compare.specs.declared.missing.Missing.{Missing}
use Rattle.compare.specs.declared.missing.Missing.TheVariants.{NoAlarm, NoEnd}
use Rattle.findings.specs.Told.{InRow, EndsTold, Tells}

-- a test says whether this is so
abbrev pub Decides : Bool → Type 0 → Type 0
Decides true P = P
Decides false P = P → ⊥

-- where the alarm stands among the rows; none if it is not there
abbrev pub AlarmFound : List Row → ℕ → ℕ → Option ℕ → Type 0
AlarmFound rows d k None = Has (Alarm d k) rows → ⊥
AlarmFound rows d k (Some i) = (i < length rows) × ((e : Row) → slice_index_or rows i e ≡ Alarm d k)

-- a variable whose value is not within its bounds; none if all are
abbrev pub Outside : List (Option Row) → List ℕ → Option ℕ → Type 0
Outside ends values None = EndsTold ends values
Outside ends values (Some x) = (x < length ends) × (InRow (slice_index_or ends x None) (slice_index values x) → ⊥)

-- the run has this fault and it is no alarm, or ends with this value of the variable and it is not within the bounds
abbrev pub Lacks : Report → Outcome → Missing → Type 0
Lacks rep (Fault d k) (NoAlarm e j) = (e ≡ d) × (j ≡ k) × (Has (Alarm d k) (vec_items rep.alarms) → ⊥)
Lacks rep (Fault d k) (NoEnd x v) = ⊥
Lacks rep (Finished s) (NoAlarm e j) = ⊥
Lacks rep (Finished s) (NoEnd x v) =
    (x < length (vec_items rep.ends)) × (v ≡ slice_index (vec_items s.values) x) × (InRow (slice_index_or (vec_items rep.ends) x None) v → ⊥)
Lacks rep OutOfRounds (NoAlarm e j) = ⊥
Lacks rep OutOfRounds (NoEnd x v) = ⊥

-- nothing is missing just if the report tells how the run ended
abbrev pub Finds : Report → Outcome → Option Missing → Type 0
Finds rep o None = Tells rep (as_outcome [] o)
Finds rep o (Some m) = Lacks rep o m × (Tells rep (as_outcome [] o) → ⊥)
