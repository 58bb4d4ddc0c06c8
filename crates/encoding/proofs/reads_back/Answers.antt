use Rattle.encoding.proofs.reads_back.Goals as goal
use Rattle.encoding.proofs.Hear.{reads_back}

pub returns : goal.returns
returns c = reads_back
