-- How the state in which a program's run begins is made from its bytes. Assumes nothing: these are definitions.
use Rattle.std.specs.Prelude.{◌≡◌, ℕ, ◌≤◌, true, List, length, replicate, Some, None, Ok, Err, vec_items, vec_len, Option, Result, Vec}
use Rattle.std.specs.declared.alloc.Global.{Global}
use Rattle.std.specs.List.{AllByRecursion}
use Rattle.program.specs.Basics.{eight, flat_map, map}
use Rattle.program.specs.Syntax.{Program}
use Rattle.program.specs.Semantics.{initial}
use Rattle.program.specs.Validity.{valid_program}
use Rattle.program.specs.Command.{load, encode}
use Rattle.encoding.specs.Standing.{Stands}
use Rattle.runner.specs.Of.{as_state}
use Rattle.runner.specs.declared.types.RunError.{RunError}
use Rattle.runner.specs.declared.types.RunError.TheVariants.{NoMemory, NoProgram}
use Rattle.runner.specs.declared.types.State.{State}

-- the text is the command that loads this valid program
pub record Loads (text : List ℕ) (p : Program) : Type 0 where
  pub valid : valid_program p ≡ true
  pub text_is : encode (load p) ≡ text

-- how many arrays the program has; none if the text loads no program
abbrev pub Counts : List ℕ → Option ℕ → Type 0
Counts text None = (p : Program) → Loads text p → ⊥
Counts text (Some n) = (n ≤ 16) × ((p : Program) → Loads text p → n ≡ length p.arrays)

-- so many lengths of arrays stand behind their count
pub record LengthsAt (text : List ℕ) (count : ℕ) (ns : List ℕ) : Type 0 where
  pub count_is : length ns ≡ count
  pub stand : Stands text 10 (flat_map eight ns)
  pub small : AllByRecursion (λ n. n ≤ 65536) ns

-- arrays of these lengths, all zeros
pub record Zeros (ns : List ℕ) (rows : Vec (Vec ℕ Global) Global) : Type 0 where
  pub elements : map vec_items (vec_items rows) ≡ map (λ n. replicate n 0) ns
  pub count_is : vec_len rows ≡ length ns

abbrev pub ArraysMade : List ℕ → ℕ → Result (Vec (Vec ℕ Global) Global) RunError → Type 0
ArraysMade text count (Ok rows) = (vec_len rows ≡ count) × ((ns : List ℕ) → LengthsAt text count ns → Zeros ns rows)
ArraysMade text count (Err NoMemory) = Unit {0}
ArraysMade text count (Err NoProgram) = (ns : List ℕ) → LengthsAt text count ns → ⊥

-- the state at the beginning of the program's run
pub record Started (p : Program) (m : State) : Type 0 where
  pub state : (ins : List ℕ) → as_state ins m ≡ initial p ins
  pub count_is : vec_len m.arrays ≡ length p.arrays

abbrev pub Starts : List ℕ → Result State RunError → Type 0
Starts text (Ok m) = (p : Program) → Loads text p → Started p m
Starts text (Err NoMemory) = Unit {0}
Starts text (Err NoProgram) = (p : Program) → Loads text p → ⊥
