use Rattle.std.proofs.Common.{arith}
use Rattle.printer.proofs.Adding.{also}
use Rattle.printer.proofs.ReadyParts.{ready_next}
use Rattle.printer.proofs.Programs.{body_ready, loaded_text}
use Rattle.printer.proofs.print_loaded.Goals as goal

pub returns : goal.returns
returns c l =
    let head = also c.in_ok-variables.ensures c.in_ok-arrays.ensures in
    let body = body_ready _ _ l c.new-printer.result c.new-printer.ensures.text c.new-printer.ensures.pos in
    let s = c.in_ok-stmt.ensures _ (ready_next head body (omega (arith, head.pos))) in
    loaded_text _ _ l _ c.new-printer.ensures.out c.lengths.ensures (also (also head s) c.in_ok-put.ensures)
