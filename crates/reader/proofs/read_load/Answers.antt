-- No program stands behind the first byte, so the text encodes no command.
use Rattle.std.proofs.Common.{arith}
use Rattle.reader.proofs.Commands.{refused}
use Rattle.reader.proofs.read_load.Goals as goal

pub returns-in_err-header : goal.returns-in_err-header
returns-in_err-header c =
    rw c.from_residual.ensures (refused c.args.text.now 1 c.requires.is (λ e p h. c.in_err-header.ensures p h) (λ e h. omega (arith, e)) (λ e x h. omega (arith, e)))
