use Rattle.thresholds.proofs.Gathering.{gathered_sorted}
use Rattle.thresholds.proofs.whole.collect.Goals as goal

pub returns-clause-sorted : goal.returns-clause-sorted
returns-clause-sorted c d h =
    gathered_sorted _ _ _ _ _ (c.gather-count.ensures.gathered d h) c.sort_unstable.ensures.permutation c.sort_unstable.ensures.len c.sort_unstable.ensures.sorted
