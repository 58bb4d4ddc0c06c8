-- The bytes that are left grow fewer.
use Rattle.evaluate.proofs.expression.+eval_from.Given as goal

abbrev pub decreases-eval_from : goal.decreases-eval_from
decreases-eval_from l = l.left
