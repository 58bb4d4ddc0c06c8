-- How an act of the machine is told to the world outside. Assumes nothing: these are definitions.
use Rattle.std.specs.Prelude.{◌≡◌, ℕ, List, ◌++◌, length, drop}
use Rattle.model.specs.Promise.{Act, shows, done, refused, Step}
use Rattle.tables.specs.declared.types.Told.{Told}
use Rattle.tables.specs.declared.types.Told.TheVariants.{Shows, Done, No}

-- what was done is told, and a row that is shown stands at the front of the lent bytes
unfoldable pub ActTold : Act → Told → (out out₁ : List ℕ) → Type 0
ActTold (shows s) r out out₁ = (r ≡ Shows (length s)) × (out₁ ≡ s ++ drop (length s) out)
ActTold done r out out₁ = (r ≡ Done) × (out₁ ≡ out)
ActTold (refused k) r out out₁ = (r ≡ No k) × (out₁ ≡ out)

-- the memory is that of the step, and what it did is told
abbrev pub StepTold : Step → List ℕ → Told → (memory₁ out₁ : List ℕ) → Type 0
StepTold s out r memory₁ out₁ = (memory₁ ≡ s.memory) × ActTold s.act r out out₁
