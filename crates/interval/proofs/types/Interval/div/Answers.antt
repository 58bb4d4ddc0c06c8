-- The quotients are what the definition says of quotients.
use Rattle.interval.specs.Arithmetic.{quotient}
use Rattle.interval.proofs.types.Interval.div.Goals as goal

pub returns : goal.returns
returns c = c.divided.ensures quotient (λ least most r p. p.1)
