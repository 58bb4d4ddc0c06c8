-- Two bytes, the second a variable, or not.
use Rattle.std.proofs.Common.{sym, refl, arith}
use Rattle.reader.proofs.Commands.{refused, end_read, end_long, end_wrong}
use Rattle.reader.proofs.read_at_end.Goals as goal

pub returns-then-text-ne2 : goal.returns-then-text-ne2
returns-then-text-ne2 c =
    refused c.args.text.now 3 c.requires.is (λ e p h. omega (arith, e)) (λ e h. omega (arith, e)) (λ e x h. c.if-text-ne2.true (end_long c.args.text.now x h))

pub returns-then-is_variable : goal.returns-then-is_variable
returns-then-is_variable c = end_read c.args.text.now _ c.requires (omega arith) refl (sym c.if-is_variable.ensures)

pub returns-else-is_variable : goal.returns-else-is_variable
returns-else-is_variable c =
    refused c.args.text.now 3 c.requires.is (λ e p h. omega (arith, e)) (λ e h. omega (arith, e)) (λ e x h. end_wrong c.args.text.now _ x refl (sym c.if-is_variable.ensures) h)
