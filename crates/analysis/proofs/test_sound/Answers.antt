use Rattle.analysis.proofs.Assume.{test_sound}
use Rattle.analysis.proofs.test_sound.Goals as goal

pub returns : goal.returns
returns c = test_sound
