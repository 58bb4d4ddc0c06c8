use Rattle.thresholds.proofs.table.Collector.+collect_test.Given as goal

abbrev pub decreases-collect_test : goal.decreases-collect_test
decreases-collect_test l = l.left
