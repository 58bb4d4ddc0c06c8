use Rattle.analysis.proofs.OnePass.{one_pass}
use Rattle.analysis.proofs.one_pass.Goals as goal

pub returns : goal.returns
returns c = one_pass
