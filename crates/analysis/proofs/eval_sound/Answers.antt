use Rattle.analysis.proofs.Evaluation.{eval_sound}
use Rattle.analysis.proofs.eval_sound.Goals as goal

pub returns : goal.returns
returns c = eval_sound
