use Rattle.program.specs.Command.{load}
use Rattle.reader.proofs.Hearing.{loads_read}
use Rattle.known.proofs.Finding.{others_load_none}
use Rattle.known.proofs.known_before.Goals as goal

pub returns : goal.returns
returns c =
    let l = loads_read _ _ _ c.in-Load.is c.in_ok-header.ensures in
    (l.program, (l.encoded, c.known_in.ensures l))

pub returns-in_default : goal.returns-in_default
returns-in_default c p loads = others_load_none _ _ p c.in_default.not-Load c.in_ok-header.ensures loads

pub returns-in_err-header : goal.returns-in_err-header
returns-in_err-header c = rw c.from_residual.ensures (λ p loads. c.in_err-header.ensures (load p) loads)
