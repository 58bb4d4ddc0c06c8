-- The eight bytes are those of the number.
use Rattle.std.proofs.Common.{arith}
use Rattle.scanner.proofs.Digits.{number_read}
use Rattle.scanner.proofs.bytes.read_number.Goals as goal

pub returns : goal.returns
returns c =
    number_read c.args.text.now c.in_ok-rest.rest.now c.in_ok-bytes.bytes.now c.args.pos c.from_be_bytes.result c.in_ok-rest.ensures.cases.2
    c.in_ok-bytes.ensures.cases (λ i. omega (arith, c.type_inv.text i)) (omega (arith, c.from_be_bytes.type_inv)) c.from_be_bytes.ensures
