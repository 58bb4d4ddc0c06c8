-- The operator that a number becomes does what the definition says of the number.
use Rattle.interval.proofs.Operators.{combined_of}
use Rattle.interval.proofs.types.EvalResult.combine.Goals as goal

pub returns-clause-number : goal.returns-clause-number
returns-clause-number g c k h v w p q =
    let e = h c.into.result c.into.ensures in
    rw (combined_of k v w) ((rw e at c.combined.ensures) v w p q)
