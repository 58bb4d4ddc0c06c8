use Rattle.runner.proofs.condition.+test_at.Given as goal

abbrev pub decreases-test_at : goal.decreases-test_at
decreases-test_at l = l.left
