-- The analysis of a whole program. Assumes nothing: these are definitions.
use Rattle.std.specs.Prelude.{ℕ, ◌+◌, ◌*◌, length, replicate}
use Rattle.program.specs.Basics.{map}
use Rattle.program.specs.Syntax.{Program}
use Rattle.interval.specs.Interval.{interval}
use Rattle.analysis.specs.Reach.{reached, Analysis}
use Rattle.analysis.specs.AbstractState.{Env, Abstract}
use Rattle.analysis.specs.Analyser.{analyse}
use Rattle.analysis.specs.Thresholds.{thresholds}

-- rounds that suffice: five, and for each bound two more than there are thresholds
abbrev pub round_limit : Program → ℕ
round_limit p = 5 + 2 * (p.vars + length p.arrays) * (2 + length (thresholds p))

-- all is 0
abbrev pub initial_abstract : Program → Abstract
initial_abstract p = reached (record { values = replicate p.vars (interval 0 0); arrays = map (λ n. interval 0 0) p.arrays })

-- the analysis of a program
abbrev pub analyse_program : Program → Analysis Env
analyse_program p = analyse p.arrays (thresholds p) (round_limit p) p.body (initial_abstract p)
