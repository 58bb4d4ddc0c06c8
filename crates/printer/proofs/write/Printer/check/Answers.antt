use Rattle.std.proofs.Common.{arith}
use Rattle.std.proofs.lemmas.Result.{on_ok_weaker}
use Rattle.printer.specs.Printing.{TestPrinted, CheckPrinted}
use Rattle.printer.proofs.Adding.{also, same_steps}
use Rattle.printer.proofs.ReadyParts.{ready_next}
use Rattle.printer.proofs.Statements.{check_text}
use Rattle.printer.proofs.write.Printer.check.Goals as goal

pub returns : goal.returns
returns c =
    on_ok_weaker {P = TestPrinted _ _ _} {Q = CheckPrinted _ _ _ _} _ (λ q p t ready.
    let begun = also c.in_ok-indent.ensures c.in_ok-put.ensures in
    same_steps (also begun (q t (ready_next begun ready (omega (arith, begun.pos))))) (omega arith) (check_text _ p t)) c.test.ensures
