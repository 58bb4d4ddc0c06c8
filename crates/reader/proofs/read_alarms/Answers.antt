-- One byte, or more.
use Rattle.std.proofs.Common.{arith}
use Rattle.reader.proofs.Commands.{refused, alarms_read, alarms_long}
use Rattle.reader.proofs.read_alarms.Goals as goal

pub returns-then-text-eq1 : goal.returns-then-text-eq1
returns-then-text-eq1 c = alarms_read c.args.text.now c.requires c.if-text-eq1.true

pub returns-else-text-eq1 : goal.returns-else-text-eq1
returns-else-text-eq1 c =
    refused c.args.text.now 2 c.requires.is (λ e p h. omega (arith, e)) (λ e h. c.if-text-eq1.false (alarms_long c.args.text.now h)) (λ e x h. omega (arith, e))
