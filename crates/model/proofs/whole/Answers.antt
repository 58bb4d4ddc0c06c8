use Rattle.model.proofs.whole.Goals as goal
use Rattle.program.specs.Command.{everything}
use Rattle.model.proofs.Promise.{whole_known}

pub returns : goal.returns
returns c = whole_known everything
