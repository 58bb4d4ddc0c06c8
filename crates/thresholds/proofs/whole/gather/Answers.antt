use Rattle.std.proofs.Common.{refl, rules}
use Rattle.thresholds.proofs.Gathering.{gathers}
use Rattle.thresholds.proofs.whole.gather.Goals as goal

pub returns-clause-gathered : goal.returns-clause-gathered
returns-clause-gathered c d h = gathers _ _ _ _ _ _ _ d refl (search rules) h (c.collect_stmt.ensures.walks d) c.push_lengths.ensures.writes
