-- What a report tells of a run. Assumes nothing: these are definitions.
use Rattle.std.specs.Prelude.{ℕ, ◌<◌, ◌≤◌, List, length, Some, None, vec_items, Option, slice_index, slice_index_or}
use Rattle.program.specs.Syntax.{Program}
use Rattle.program.specs.Semantics.{Outcome, finished, fault, out_of_rounds, run_program}
use Rattle.session.specs.Rows.{Has}
use Rattle.session.specs.declared.rows.Row.{Row}
use Rattle.session.specs.declared.rows.Row.TheVariants.{Alarm, Bounds}
use Rattle.findings.specs.declared.Report.{Report}

-- the value lies within the row's bounds, if there is a row
abbrev pub InRow : Option Row → ℕ → Type 0
InRow None v = ⊥
InRow (Some (Alarm d k)) v = ⊥
InRow (Some (Bounds lo hi)) v = (lo ≤ v) × (v ≤ hi)

-- each variable that has a row lies within its bounds
abbrev pub EndsTold : List (Option Row) → List ℕ → Type 0
EndsTold ends values = (x : ℕ) → x < length ends → InRow (slice_index_or ends x None) (slice_index values x)

-- the report tells how the run ended: its fault is among the alarms, or its end lies within the bounds
abbrev pub Tells : Report → Outcome → Type 0
Tells rep (finished s) = EndsTold (vec_items rep.ends) s.values
Tells rep (fault d k) = Has (Alarm d k) (vec_items rep.alarms)
Tells rep out_of_rounds = Unit {0}

-- the report tells how every run of the program ends
abbrev pub TellsAll : Report → Program → Type 0
TellsAll rep p = (n : ℕ) (inputs : List ℕ) → Tells rep (run_program n p inputs)
