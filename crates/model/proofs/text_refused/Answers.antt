use Rattle.model.proofs.text_refused.Goals as goal
use Rattle.model.proofs.Session.{text_refused}

pub returns : goal.returns
returns c = text_refused
