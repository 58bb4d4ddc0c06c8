-- The machine's memory, and what it holds for a program:
-- word 0 the number of variables; 1 whether no run comes to an end; 2 the cursor, the slot from which the next alarm is looked for;
-- 3 to 130 the intervals of 64 variables at the end; 131 to 162 those of 16 arrays; 163 to 11082 the alarm table; 11083 to 22082 scratch, 0.
-- Assumes nothing: these are definitions.
use Rattle.std.specs.Prelude.{ℕ, zero, suc, ◌+◌, ◌-◌, ◌*◌, ◌/◌, ◌%◌, List, [], ◌∷◌, ◌++◌, replicate, slice_set}
use Rattle.program.specs.Syntax.{Program}
use Rattle.program.specs.Semantics.{truth}
use Rattle.interval.specs.Interval.{Interval}
use Rattle.analysis.specs.Reach.{unreached, reached, Alarm}
use Rattle.analysis.specs.AbstractState.{Abstract}
use Rattle.analysis.specs.Whole.{analyse_program}
use Rattle.analysis.specs.Concretisation.{has_alarm}

-- four slots for each of 2,730 statements
abbrev pub slots : ℕ
slots = 10920

-- words behind the table that are 0 whenever a step has ended
abbrev pub scratch : ℕ
scratch = 11000

-- words of the whole memory
abbrev pub memory_size : ℕ
memory_size = 22083

-- n zeros
unfoldable pub zeros : ℕ → List ℕ
zeros n = replicate n 0

-- the bounds of k intervals, 0 past the last
unfoldable pub bounds : ℕ → List Interval → List ℕ
bounds zero ss = []
bounds (suc k) [] = 0 ∷ 0 ∷ bounds k []
bounds (suc k) (s ∷ ss) = s.lo ∷ s.hi ∷ bounds k ss

-- the variables' and the arrays' bounds, all 0 if nothing comes there
unfoldable pub end_bounds : Abstract → List ℕ
end_bounds unreached = bounds 64 [] ++ bounds 16 []
end_bounds (reached w) = bounds 64 w.values ++ bounds 16 w.arrays

-- 1 if nothing comes there
abbrev pub no_end : Abstract → ℕ
no_end unreached = 1
no_end (reached w) = 0

-- the statement of a slot
abbrev pub slot_stmt : ℕ → ℕ
slot_stmt i = suc (i / 4)

-- the kind of a slot
abbrev pub slot_kind : ℕ → ℕ
slot_kind i = suc (i % 4)

-- the slot of an alarm
abbrev pub slot : Alarm → ℕ
slot a = 4 * (a.stmt - 1) + (a.kind - 1)

-- n slots from the i-th on: 1 if there is such an alarm
unfoldable pub alarm_table : List Alarm → ℕ → ℕ → List ℕ
alarm_table as₁ zero i = []
alarm_table as₁ (suc n) i = truth (has_alarm as₁ (slot_stmt i) (slot_kind i)) ∷ alarm_table as₁ n (suc i)

-- a table with more alarms marked
unfoldable pub mark_alarms : List Alarm → List ℕ → List ℕ
mark_alarms [] t = t
mark_alarms (a ∷ as₁) t = mark_alarms as₁ (slice_set t (slot a) 1)

-- a memory with cursor c, n variables, this end and this alarm table
abbrev pub memory_with : ℕ → ℕ → Abstract → List ℕ → List ℕ
memory_with c n h t = n ∷ no_end h ∷ c ∷ (end_bounds h ++ (t ++ zeros scratch))

-- a memory with cursor c, n variables, this end and these alarms
unfoldable pub memory_of : ℕ → ℕ → Abstract → List Alarm → List ℕ
memory_of c n h as₁ = memory_with c n h (alarm_table as₁ slots 0)

-- the memory of a program, with cursor c
abbrev pub laid : ℕ → Program → List ℕ
laid c p = memory_of c p.vars (analyse_program p).out (analyse_program p).alarms
