-- So many lengths are read, and the rest is still 0.
use Rattle.reader.specs.Request.{LengthsAt}
use Rattle.reader.proofs.load.read.read_lengths.Given as goal

abbrev pub invariant-loop-i : goal.invariant-loop-i
invariant-loop-i l = LengthsAt l.text l.pos l.i l.lengths
