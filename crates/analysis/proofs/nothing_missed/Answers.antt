use Rattle.analysis.proofs.Missed.{misses_nothing}
use Rattle.analysis.proofs.nothing_missed.Goals as goal

pub returns : goal.returns
returns c = misses_nothing
