use Rattle.std.proofs.Common.{arith}
use Rattle.script.proofs.Joined.{begins_long, begins_so}
use Rattle.script.proofs.split.first_command.Goals as goal

pub returns-in_err-size : goal.returns-in_err-size
returns-in_err-size c = rw c.from_residual.ensures (λ d rest e. let k = begins_long c.args.file.now d rest e in omega (arith, c.in_err-size.ensures))

pub returns : goal.returns
returns c =
    begins_so c.args.file.now c.in_ok-size.size c.split_at_checked.result c.in_ok-size.ensures.small (omega arith) (omega (arith, c.in_ok-size.ensures)) c.in_ok-size.ensures.stands
    c.split_at_checked.ensures.cases
