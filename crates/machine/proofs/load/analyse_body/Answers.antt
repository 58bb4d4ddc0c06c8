use Rattle.machine.proofs.Analysing.{from_initial}
use Rattle.machine.proofs.load.analyse_body.Goals as goal

pub returns : goal.returns
returns c d rising ready = from_initial _ _ _ _ _ _ _ _ d _ c.initial-state.ensures (c.analyse_at.ensures d rising ready)
