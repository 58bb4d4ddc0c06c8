use Rattle.std.proofs.Common.{◌≡◌, ◌≤◌, take}
use Rattle.place.specs.Lines.{newlines}
use Rattle.place.proofs.count_newlines.Given as goal

abbrev pub invariant-loop-b : goal.invariant-loop-b
invariant-loop-b l = (l.count ≤ l.b-index) × (l.count ≡ newlines (take l.b-index l.bytes))
