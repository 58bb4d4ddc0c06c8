use Rattle.runner.proofs.skip.+skip_stmt.Given as goal

abbrev pub decreases-skip_stmt : goal.decreases-skip_stmt
decreases-skip_stmt l = l.left
