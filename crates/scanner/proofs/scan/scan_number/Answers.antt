-- A number below 2^32, one that isn't, or none.
use Rattle.std.proofs.Common.{ltb, sym, arith}
use Rattle.std.proofs.lemmas.Bool.{ltb-true}
use Rattle.program.specs.Basics.{limit}
use Rattle.scanner.proofs.Parts.{eight_past, eight_wrong, eight_found}
use Rattle.scanner.proofs.scan.scan_number.Goals as goal

pub returns-in_err-n : goal.returns-in_err-n
returns-in_err-n c = rw c.from_residual.ensures (eight_past (λ n. ltb n limit) c.args.text.now c.args.pos c.in_err-n.ensures)

pub returns-then-is_number : goal.returns-then-is_number
returns-then-is_number c = eight_found (λ n. ltb n limit) c.args.text.now c.args.pos c.in_ok-n.n c.in_ok-n.ensures (sym c.if-is_number.ensures)

pub returns-else-is_number : goal.returns-else-is_number
returns-else-is_number c =
    eight_wrong (λ n. ltb n limit) c.args.text.now c.args.pos c.in_ok-n.n (λ m e. omega (arith, ltb-true m limit e)) c.in_ok-n.ensures (sym c.if-is_number.ensures)
