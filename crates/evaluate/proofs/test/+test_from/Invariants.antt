-- The bytes that are left grow fewer.
use Rattle.evaluate.proofs.test.+test_from.Given as goal

abbrev pub decreases-test_from : goal.decreases-test_from
decreases-test_from l = l.left
