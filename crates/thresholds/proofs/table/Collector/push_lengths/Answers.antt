use Rattle.std.proofs.Common.{arith}
use Rattle.thresholds.proofs.Gathering.{lengths_more}
use Rattle.thresholds.proofs.Walking.{same_two}
use Rattle.thresholds.proofs.table.Collector.push_lengths.Goals as goal

pub loop-n-preserved : goal.loop-n-preserved
loop-n-preserved c = record {
  same = same_two _ _ _ c.loop-n.invariant.same c.push_two.ensures.same;
  writes = lengths_more _ _ _ _ _ _ c.loop-n-test.true (omega arith) c.loop-n.invariant.writes c.push_two.ensures.writes;
}
