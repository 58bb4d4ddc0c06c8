use Rattle.analysis.proofs.Worked.{worked_runs}
use Rattle.analysis.proofs.worked_runs.Goals as goal

pub returns : goal.returns
returns c = worked_runs
