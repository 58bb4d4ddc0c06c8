use Rattle.analysis.proofs.Join.{join_sound}
use Rattle.analysis.proofs.join_sound.Goals as goal

pub returns : goal.returns
returns c = join_sound
