use Rattle.analysis.proofs.Runs.{loop_free_same}
use Rattle.analysis.proofs.loop_free_same.Goals as goal

pub returns : goal.returns
returns c = loop_free_same
