use Rattle.std.proofs.Common.{◌-◌, length}
use Rattle.shrink.proofs.walk.places_of.Given as goal

abbrev pub decreases-loop-pos : goal.decreases-loop-pos
decreases-loop-pos l = length l.text - l.pos
