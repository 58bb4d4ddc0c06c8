use Rattle.std.proofs.Common.{◌+◌, ◌*◌}
use Rattle.printer.proofs.write.Printer.+conditions.Given as goal

abbrev pub decreases-test : goal.decreases-test
decreases-test l = 2 * l.left

abbrev pub decreases-tests : goal.decreases-tests
decreases-tests l = 2 * l.left + 1
