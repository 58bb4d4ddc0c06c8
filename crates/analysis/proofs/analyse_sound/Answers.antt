use Rattle.analysis.proofs.Missed.{analyse_sound}
use Rattle.analysis.proofs.analyse_sound.Goals as goal

pub returns : goal.returns
returns c = analyse_sound
