-- The operator that a number becomes does what the definition says of the number.
use Rattle.interval.specs.Of.{as_interval}
use Rattle.interval.proofs.Operators.{operation_of}
use Rattle.interval.proofs.types.Interval.apply.Goals as goal

pub returns-clause-number : goal.returns-clause-number
returns-clause-number g c k h =
    let e = h c.into.result c.into.ensures in
    rw (operation_of k (as_interval c.args.a) (as_interval c.args.b)) (rw e at c.operate.ensures)
