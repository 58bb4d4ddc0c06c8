use Rattle.std.proofs.Common.{ℕ, ◌<◌, get_or, None}
use Rattle.findings.specs.Told.{InRow}
use Rattle.compare.proofs.missing.outside.Given as goal

-- each variable so far lies within its bounds
abbrev pub invariant-loop-x : goal.invariant-loop-x
invariant-loop-x l = (k : ℕ) → k < l.x → InRow (get_or l.ends k None) (get_or l.values k 0)
