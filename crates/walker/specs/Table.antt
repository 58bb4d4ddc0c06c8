-- The alarm table: slot i stands for statement 1 + i / 4 and kind 1 + i % 4. Assumes nothing: these are definitions.
use Rattle.std.specs.Prelude.{◌≡◌, ℕ, suc, ◌/◌, ◌%◌, ◌<◌, Bool, true, false, cond, List, length, slice_index, slice_set}
use Rattle.analysis.specs.Reach.{Alarm}
use Rattle.analysis.specs.Concretisation.{has_alarm}

-- a table after these alarms: their slots are 1, the others as they were
pub record Marked (as₁ : List Alarm) (t t₁ : List ℕ) : Type 0 where
  pub long : length t₁ ≡ length t
  pub each_is : (i : ℕ) → i < length t → slice_index t₁ i ≡ cond (has_alarm as₁ (suc (i / 4)) (suc (i % 4))) 1 (slice_index t i)

-- one slot, if the kind is there
abbrev pub mark_if : Bool → ℕ → List ℕ → List ℕ
mark_if true j t = slice_set t j 1
mark_if false j t = t
