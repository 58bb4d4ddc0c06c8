use Rattle.std.proofs.Common.{◌+◌, ◌*◌}
use Rattle.printer.proofs.write.Printer.+statements.Given as goal

abbrev pub decreases-stmt : goal.decreases-stmt
decreases-stmt l = 4 * l.left

abbrev pub decreases-block : goal.decreases-block
decreases-block l = 4 * l.left + 1

abbrev pub decreases-first : goal.decreases-first
decreases-first l = 4 * l.left + 2

abbrev pub decreases-otherwise : goal.decreases-otherwise
decreases-otherwise l = 4 * l.left + 2

abbrev pub decreases-repeat : goal.decreases-repeat
decreases-repeat l = 4 * l.left + 2

abbrev pub decreases-branch : goal.decreases-branch
decreases-branch l = 4 * l.left + 3
