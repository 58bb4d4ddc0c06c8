use Rattle.runner.proofs.skip.+skip_expr.Given as goal

abbrev pub decreases-skip_expr : goal.decreases-skip_expr
decreases-skip_expr l = l.left
