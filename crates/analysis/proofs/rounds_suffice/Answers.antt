use Rattle.analysis.proofs.Rounds.{rounds_suffice}
use Rattle.analysis.proofs.rounds_suffice.Goals as goal

pub returns : goal.returns
returns c = rounds_suffice
