-- A byte below the bound, one that isn't, or none.
use Rattle.scanner.proofs.Parts.{byte_past, byte_wrong, byte_found}
use Rattle.scanner.proofs.scan.scan_byte.Goals as goal

pub returns-in_err-b : goal.returns-in_err-b
returns-in_err-b c = rw c.from_residual.ensures (byte_past c.args.bound c.args.text.now c.args.pos c.in_err-b.ensures)

pub returns-then-b-bound : goal.returns-then-b-bound
returns-then-b-bound c = byte_found c.args.bound c.args.text.now c.args.pos c.in_ok-b.b c.in_ok-b.ensures c.if-b-bound.true

pub returns-else-b-bound : goal.returns-else-b-bound
returns-else-b-bound c = byte_wrong c.args.bound c.args.text.now c.args.pos c.in_ok-b.b c.in_ok-b.ensures c.if-b-bound.false
