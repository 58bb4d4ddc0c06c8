use Rattle.model.proofs.command_answered.Goals as goal
use Rattle.model.proofs.Session.{command_answered}

pub returns : goal.returns
returns c = command_answered
