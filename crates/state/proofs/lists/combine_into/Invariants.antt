-- what is passed is what a call made of the two, and what is ahead is as it was
use Rattle.std.proofs.Common.{◌≡◌, ℕ, ◌<◌, ◌≤◌, get_or}
use Rattle.interval.specs.declared.types.Interval.{Interval}
use Rattle.state.proofs.lists.combine_into.Given as goal

abbrev pub invariant-loop-i : goal.invariant-loop-i
invariant-loop-i g l =
    ((k : ℕ) (d : Interval) → k < l.i → goal.F-post g l.f (get_or l.initial.list k d) (get_or l.other k d) (get_or l.list k d))
    × ((k : ℕ) (d : Interval) → l.i ≤ k → get_or l.list k d ≡ get_or l.initial.list k d)
