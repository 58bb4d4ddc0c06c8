use Rattle.std.proofs.Common.{◌+◌, ◌*◌}
use Rattle.generate.proofs.draft.Draft.+expressions.Given as goal

abbrev pub decreases-expression : goal.decreases-expression
decreases-expression l = 2 * l.depth

abbrev pub decreases-index : goal.decreases-index
decreases-index l = 2 * l.depth

abbrev pub decreases-tame : goal.decreases-tame
decreases-tame l = 2 * l.depth + 1
