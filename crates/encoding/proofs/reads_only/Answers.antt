use Rattle.encoding.proofs.reads_only.Goals as goal
use Rattle.encoding.proofs.Hear.{reads_only}

pub returns : goal.returns
returns c = reads_only
