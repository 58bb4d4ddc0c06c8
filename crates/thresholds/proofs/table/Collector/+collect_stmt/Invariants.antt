use Rattle.thresholds.proofs.table.Collector.+collect_stmt.Given as goal

abbrev pub decreases-collect_stmt : goal.decreases-collect_stmt
decreases-collect_stmt l = l.left
