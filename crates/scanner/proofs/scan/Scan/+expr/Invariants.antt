-- Every part begins further on.
use Rattle.std.proofs.Common.{◌-◌, length}
use Rattle.scanner.proofs.scan.Scan.+expr.Given as goal

abbrev pub decreases-expr : goal.decreases-expr
decreases-expr l = length l.self.now.text.now - l.pos
