use Rattle.thresholds.proofs.table.Collector.+collect_expr.Given as goal

abbrev pub decreases-collect_expr : goal.decreases-collect_expr
decreases-collect_expr l = l.left
