use Rattle.model.proofs.fault_shown.Goals as goal
use Rattle.model.proofs.Session.{fault_shown}

pub returns : goal.returns
returns c = fault_shown
