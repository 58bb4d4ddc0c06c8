-- The index never comes to a value, or it does.
use Rattle.interval.specs.Of.{as_interval}
use Rattle.interval.proofs.Combining.{element_never, element_value}
use Rattle.interval.proofs.types.EvalResult.element.Goals as goal

pub returns-in_default : goal.returns-in_default
returns-in_default c w h = element_never c.args.len (as_interval c.args.array) c.args.self w c.in_default.is h

pub returns : goal.returns
returns c w h =
    rw c.after.ensures
    (element_value c.args.len (as_interval c.args.array) c.in-Some.index c.args.self c.element_of.result w c.in-Some.is h c.element_of.ensures)
