-- What is proved of thresholds beside what the code's contracts say. Each statement is a type; a function of src/ has it as its contract. Assumes nothing: these are definitions.
use Rattle.std.specs.Prelude.{◌≡◌, ◌≤◌, true, length}
use Rattle.program.specs.Syntax.{Program}
use Rattle.program.specs.Validity.{valid_program}
use Rattle.analysis.specs.Thresholds.{thresholds}

-- a valid program has at most 11,000 thresholds
unfoldable pub FewThresholds : Type 0
FewThresholds = (p : Program) → valid_program p ≡ true → length (thresholds p) ≤ 11000
