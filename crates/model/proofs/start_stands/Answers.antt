use Rattle.model.proofs.start_stands.Goals as goal
use Rattle.model.proofs.Start.{start_stands}

pub returns : goal.returns
returns c = start_stands
