-- A step's answer as one number, for callers in C. Assumes nothing: these are definitions.
use Rattle.std.specs.Prelude.{◌≡◌, ℕ, ◌+◌, ◌≤◌, cond, List, ◌==◌}
use Rattle.model.specs.Entry.{step_fits}
use Rattle.tables.specs.declared.types.Told.{Told}
use Rattle.tables.specs.declared.types.Told.TheVariants.{Shows, Done, No}
use Rattle.machine.specs.Entry.{StepSays}

-- 0 if the command has ended, 1000 and the length of a row, a refusal's number; 999 if the step was not asked for properly
abbrev pub code_of : Told → ℕ
code_of (Shows n) = 1000 + n
code_of Done = 0
code_of (No k) = cond (k == 0) 999 k

-- a row has at most sixteen bytes
abbrev pub Short : Told → Type 0
Short (Shows n) = n ≤ 16
Short Done = Unit {0}
Short (No k) = Unit {0}

-- the number is that of what the step tells
pub record StepCoded (memory : List ℕ) (kind : ℕ) (text out : List ℕ) (r : ℕ) (memory₁ out₁ : List ℕ) : Type 0 where
  pub told : Told
  pub says : StepSays memory kind text out (step_fits memory kind out) told memory₁ out₁
  pub code : r ≡ code_of told
