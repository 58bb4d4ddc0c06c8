use Rattle.std.proofs.Common.{length}
use Rattle.limits.proofs.walk.Nest.close.Given as goal

abbrev pub decreases-loop-self : goal.decreases-loop-self
decreases-loop-self l = length l.self.levels.items
