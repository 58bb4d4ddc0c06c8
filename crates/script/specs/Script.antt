-- Session files: commands, each behind its length. Assumes nothing: these are definitions.
use Rattle.std.specs.Prelude.{◌≡◌, ℕ, List, [], ◌∷◌, ◌++◌, length, codes, Some, None, Ok, Err, vec_items, Option, Result, Vec, ◌≢◌}
use Rattle.std.specs.Borrow.{Bor}
use Rattle.std.specs.declared.alloc.Global.{Global}
use Rattle.program.specs.Basics.{map, eight}
use Rattle.script.specs.declared.split.ScriptError.{ScriptError}
use Rattle.script.specs.declared.split.ScriptError.TheVariants.{Damaged, NoMemory}

-- a file's bytes: each command behind its length in eight bytes
abbrev pub joined : List (List ℕ) → List ℕ
joined [] = []
joined (c ∷ cs) = eight (length c) ++ (c ++ joined cs)

-- what is behind references
abbrev pub contents : List (Bor (List ℕ)) → List (List ℕ)
contents rs = map (λ r. r.now) rs

-- the first command and what stands behind it; none if the file does not begin with a command
abbrev pub Begins : List ℕ → Option (Bor (List ℕ) × Bor (List ℕ)) → Type 0
Begins file None = (c rest : List ℕ) → file ≢ eight (length c) ++ (c ++ rest)
Begins file (Some r) = file ≡ eight (length r.0.now) ++ (r.0.now ++ r.1.now)

-- the file is these commands; a damaged one is made of no commands
abbrev pub Splits : List ℕ → Result (Vec (Bor (List ℕ)) Global) ScriptError → Type 0
Splits file (Ok v) = joined (contents (vec_items v)) ≡ file
Splits file (Err Damaged) = (cs : List (List ℕ)) → joined cs ≢ file
Splits file (Err NoMemory) = Unit {0}

-- an error in words
abbrev pub error_words : ScriptError → List ℕ
error_words Damaged = codes "damaged: it ends within a command"
error_words NoMemory = codes "out of memory"
