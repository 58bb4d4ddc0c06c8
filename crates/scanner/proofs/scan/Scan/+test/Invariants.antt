-- There are ever fewer tests to come.
use Rattle.scanner.proofs.scan.Scan.+test.Given as goal

abbrev pub decreases-test : goal.decreases-test
decreases-test l = l.room
