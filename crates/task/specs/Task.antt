-- What a pass through a loaded program needs. Assumes nothing: these are definitions.
use Rattle.std.specs.Prelude.{◌≡◌, ℕ, List}
use Rattle.std.specs.List.Sorted.{IsNonDecreasing, IsPermutation}
use Rattle.program.specs.Syntax.{Program}
use Rattle.analysis.specs.Thresholds.{thresholds}
use Rattle.analysis.specs.Whole.{round_limit}
use Rattle.walker.specs.declared.types.Task.{Task}

-- the task has these bytes as its text, and of the program its arrays' lengths, its thresholds in ascending order, and its limit of rounds
pub record TaskOf (p : Program) (bytes : List ℕ) (t : Task) : Type 0 where
  pub text : t.text.now ≡ bytes
  pub lengths : t.lengths.now ≡ p.arrays
  pub shuffled : IsPermutation (thresholds p) t.thresholds.now
  pub rising : IsNonDecreasing t.thresholds.now
  pub rounds : t.rounds ≡ round_limit p
