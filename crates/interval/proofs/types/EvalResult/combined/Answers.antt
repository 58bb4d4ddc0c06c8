-- The first never comes to a value, or the second, or both do.
use Rattle.program.specs.Kinds.{operator_code}
use Rattle.interval.proofs.Combining.{combined_never, combined_no_second, combined_both}
use Rattle.interval.proofs.types.EvalResult.combined.Goals as goal

pub returns-in_default : goal.returns-in_default
returns-in_default c v w h e = combined_never (operator_code c.args.op) c.args.a v w c.in_default.is h

pub returns-in_default-interval : goal.returns-in_default-interval
returns-in_default-interval c v w h e =
    rw c.after.ensures (combined_no_second (operator_code c.args.op) c.in-Some.s c.args.a c.args.b v w c.in-Some.is c.in_default-interval.is h e)

pub returns : goal.returns
returns c v w h e =
    rw (c.after-3.ensures, c.after-2.ensures)
    (combined_both (operator_code c.args.op) c.in-Some.s c.in-Some-interval.t c.args.a c.args.b c.operate.result v w c.in-Some.is c.in-Some-interval.is h e c.operate.ensures)
