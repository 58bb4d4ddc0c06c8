use Rattle.thresholds.specs.Statements.{FewThresholds}
use Rattle.thresholds.proofs.Few.{few_thresholds}
use Rattle.thresholds.proofs.few_thresholds.Goals as goal

pub returns : goal.returns
unfolding FewThresholds
returns c = few_thresholds
