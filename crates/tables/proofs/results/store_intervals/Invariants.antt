-- The bounds of the intervals passed stand at the front; the words behind are as they were.
use Rattle.std.proofs.Common.{◌≡◌, ◌*◌, ◌++◌, drop}
use Rattle.model.specs.Memory.{bounds}
use Rattle.state.specs.Of.{as_intervals}
use Rattle.tables.proofs.results.store_intervals.Given as goal

abbrev pub invariant-loop-i : goal.invariant-loop-i
invariant-loop-i l = l.words ≡ bounds l.i (as_intervals l.list) ++ drop (2 * l.i) l.initial.words
