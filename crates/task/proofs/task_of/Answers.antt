use Rattle.std.proofs.Common.{refl}
use Rattle.task.proofs.Loaded.{task_found}
use Rattle.task.proofs.task_of.Goals as goal

pub returns : goal.returns
returns c l = task_found _ _ l _ _ _ _ refl c.lengths-lengths.ensures c.requires refl c.round_limit.ensures c.collect-count.ensures.sorted
