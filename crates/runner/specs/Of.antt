-- The state of the definitions that a running program's memory stands for. Assumes nothing: these are definitions.
use Rattle.std.specs.Prelude.{ℕ, List, drop, vec_items}
use Rattle.program.specs.Basics.{map}
use Rattle.program.specs.Semantics.{State as PlainState}
use Rattle.runner.specs.declared.types.State.{State}

-- with these inputs in all, of which some have been read
abbrev pub as_state : List ℕ → State → PlainState
as_state ins m = record { values = vec_items m.values; arrays = map vec_items (vec_items m.arrays); inputs = drop m.read ins }
