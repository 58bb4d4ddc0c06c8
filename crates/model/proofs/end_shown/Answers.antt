use Rattle.model.proofs.end_shown.Goals as goal
use Rattle.model.proofs.Session.{end_shown}

pub returns : goal.returns
returns c = end_shown
