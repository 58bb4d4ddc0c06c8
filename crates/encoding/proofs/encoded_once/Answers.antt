use Rattle.encoding.proofs.encoded_once.Goals as goal
use Rattle.encoding.proofs.Hear.{encoded_once}

pub returns : goal.returns
returns c = encoded_once
