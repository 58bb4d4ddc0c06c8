-- How a step of the machine is told to the world outside. Assumes nothing: these are definitions.
use Rattle.std.specs.Prelude.{◌≡◌, ℕ, Bool, true, false, List}
use Rattle.model.specs.Entry.{own, event_of}
use Rattle.tables.specs.declared.types.Told.{Told}
use Rattle.tables.specs.declared.types.Told.TheVariants.{No}
use Rattle.tables.specs.Telling.{StepTold}

-- one step of the machine, if it is asked for properly; else number 0 is told and nothing is changed
unfoldable pub StepSays : (memory : List ℕ) (kind : ℕ) (text out : List ℕ) → Bool → Told → (memory₁ out₁ : List ℕ) → Type 0
StepSays memory kind text out true r memory₁ out₁ = StepTold (own.step memory (event_of kind text)) out r memory₁ out₁
StepSays memory kind text out false r memory₁ out₁ = (r ≡ No 0) × (memory₁ ≡ memory) × (out₁ ≡ out)
