use Rattle.model.specs.Memory.{zeros}
use Rattle.tables.proofs.results.clear.Goals as goal

pub returns : goal.returns
unfolding zeros
returns c = c.fill.ensures.after (λ y e. e)
