use Rattle.runner.proofs.expression.+eval_at.Given as goal

abbrev pub decreases-eval_at : goal.decreases-eval_at
decreases-eval_at l = l.left
