use Rattle.std.proofs.Common.{refl}
use Rattle.random.specs.Random.{scrambled}
use Rattle.random.proofs.numbers.scramble.Goals as goal

pub returns : goal.returns
unfolding scrambled
returns c = refl
