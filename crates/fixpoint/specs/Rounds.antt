-- How the state of a loop goes on from one round to the next. Assumes nothing: these are definitions.
use Rattle.std.specs.Prelude.{ℕ, ◌-◌, cond, List, ◌==◌}
use Rattle.analysis.specs.AbstractState.{Abstract, join, widen}

-- what comes anew is joined in the first four rounds, counted from 0, and from then on widened too
abbrev pub next_round : List ℕ → ℕ → Abstract → Abstract → Abstract
next_round ms i h next = cond (4 - i == 0) (widen ms h (join h next)) (join h next)
