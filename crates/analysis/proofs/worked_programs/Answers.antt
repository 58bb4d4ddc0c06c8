use Rattle.analysis.proofs.Worked.{worked}
use Rattle.analysis.proofs.worked_programs.Goals as goal

pub returns : goal.returns
returns c = worked
