use Rattle.std.proofs.Common.{refl}
use Rattle.known.proofs.Finding.{known_found}
use Rattle.known.proofs.known_in.Goals as goal

pub returns : goal.returns
returns c l = known_found _ _ l _ _ _ _ _ _ _ (c.task_of-task.ensures l) c.initial-state.ensures refl c.watch_at.ensures
