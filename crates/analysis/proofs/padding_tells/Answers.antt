use Rattle.analysis.proofs.Padding.{padding_tells}
use Rattle.analysis.proofs.padding_tells.Goals as goal

pub returns : goal.returns
returns c = padding_tells
