use Rattle.walker.proofs.Storing.{no_index, no_value, element_stored}
use Rattle.walker.proofs.simple.store_result.Goals as goal

pub returns-in_default : goal.returns-in_default
returns-in_default c i v h k = no_index c.args.n c.args.index i v c.in_default.is h

pub returns-in_default-interval : goal.returns-in_default-interval
returns-in_default-interval c i v h k =
    rw c.after-both.ensures (no_value c.args.n c.in-Some.i c.args.index c.args.value i v c.in-Some.is c.in_default-interval.is h k)

pub returns : goal.returns
returns c i v h k =
    rw (c.after.ensures, c.after-both.ensures)
    (element_stored c.args.n c.in-Some.i c.in-Some-interval.v c.args.index c.args.value c.element_of.result i v
    c.in-Some.is c.in-Some-interval.is h k c.element_of.ensures)
