use Rattle.analysis.proofs.Intervals.{analyse_is_walk}
use Rattle.analysis.proofs.analyse_is_walk.Goals as goal

pub returns : goal.returns
returns c = analyse_is_walk
