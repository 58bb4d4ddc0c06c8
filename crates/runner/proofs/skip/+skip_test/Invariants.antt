use Rattle.runner.proofs.skip.+skip_test.Given as goal

abbrev pub decreases-skip_test : goal.decreases-skip_test
decreases-skip_test l = l.left
