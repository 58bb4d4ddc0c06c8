-- What a search for a marked slot answers. Assumes nothing: these are definitions.
use Rattle.std.specs.Prelude.{◌≡◌, ℕ, ◌<◌, Bool, not, ◌==◌, Some, None, Option}
use Rattle.model.specs.Memory.{slots}
use Rattle.model.specs.Machine.{Found, nowhere, found}

-- a slot that is marked
abbrev pub is_mark : ℕ → Bool
is_mark mark = not (mark == 0)

-- the slot that is to be found, or that there is none
abbrev pub Finds : Found → Option ℕ → Type 0
Finds f None = f ≡ nowhere
Finds f (Some i) = (f ≡ found i) × (i < slots)
