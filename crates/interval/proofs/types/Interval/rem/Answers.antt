-- The remainders are what the definition says of remainders.
use Rattle.interval.specs.Arithmetic.{remainder}
use Rattle.interval.proofs.types.Interval.rem.Goals as goal

pub returns : goal.returns
returns c = c.divided.ensures remainder (λ least most r p. p.1)
