-- No command is empty, and none begins with another byte.
use Rattle.std.proofs.Common.{arith}
use Rattle.reader.proofs.Commands.{refused, none_empty}
use Rattle.reader.proofs.read_command.Goals as goal

pub returns-in_err-byte_at : goal.returns-in_err-byte_at
returns-in_err-byte_at c = rw c.from_residual.ensures (none_empty c.args.text.now c.in_err-byte_at.ensures)

pub returns-in_default : goal.returns-in_default
returns-in_default c =
    refused c.args.text.now c.in_ok-byte_at.field-0 c.in_ok-byte_at.ensures.is (λ e p h. omega (arith, e)) (λ e h. omega (arith, e)) (λ e x h. omega (arith, e))
