use Rattle.std.proofs.Common.{◌-◌, length}
use Rattle.shrink.proofs.edit.renumber.Given as goal

abbrev pub decreases-loop-pos : goal.decreases-loop-pos
decreases-loop-pos l = length l.text - l.pos
