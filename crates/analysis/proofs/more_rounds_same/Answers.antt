use Rattle.analysis.proofs.Runs.{more_rounds_same}
use Rattle.analysis.proofs.more_rounds_same.Goals as goal

pub returns : goal.returns
returns c = more_rounds_same
