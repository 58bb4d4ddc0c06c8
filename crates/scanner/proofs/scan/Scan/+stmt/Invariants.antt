-- Every part begins further on.
use Rattle.std.proofs.Common.{◌-◌, length}
use Rattle.scanner.proofs.scan.Scan.+stmt.Given as goal

abbrev pub decreases-stmt : goal.decreases-stmt
decreases-stmt l = length l.self.now.text.now - l.pos
