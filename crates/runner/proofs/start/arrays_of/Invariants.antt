use Rattle.std.proofs.Common.{◌≡◌, ℕ, List, take, replicate, vec_items, vec_len}
use Rattle.program.specs.Basics.{map}
use Rattle.runner.specs.Starting.{LengthsAt}
use Rattle.runner.proofs.start.arrays_of.Given as goal

-- the arrays so far
abbrev pub invariant-loop-i : goal.invariant-loop-i
invariant-loop-i l =
    (vec_len l.arrays ≡ l.i)
    × ((ns : List ℕ) → LengthsAt l.text l.count ns → map vec_items (vec_items l.arrays) ≡ map (λ n. replicate n 0) (take l.i ns))
