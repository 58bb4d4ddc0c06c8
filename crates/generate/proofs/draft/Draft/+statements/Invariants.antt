use Rattle.std.proofs.Common.{◌+◌, ◌*◌}
use Rattle.generate.proofs.draft.Draft.+statements.Given as goal

abbrev pub decreases-block : goal.decreases-block
decreases-block l = 3 * l.depth + 1

abbrev pub decreases-counted : goal.decreases-counted
decreases-counted l = 3 * l.depth + 2

abbrev pub decreases-statement : goal.decreases-statement
decreases-statement l = 3 * l.depth
