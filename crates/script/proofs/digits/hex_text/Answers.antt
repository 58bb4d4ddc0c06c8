use Rattle.std.proofs.Common.{◌≡◌, List, ℕ, IfOk, string_bytes, subst, arith}
use Rattle.script.proofs.HexDigits.{hex_is}
use Rattle.script.proofs.digits.hex_text.Goals as goal

pub returns : goal.returns
returns c = subst (λ (digits : List ℕ). IfOk c.encode.result (λ s. string_bytes s ≡ digits)) (hex_is c.args.bytes.now (λ i. omega (arith, c.type_inv.bytes i))) c.encode.ensures
