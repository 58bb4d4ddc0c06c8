use Rattle.std.proofs.Common.{refl, arith}
use Rattle.std.proofs.lemmas.Result.{on_ok_weaker}
use Rattle.printer.specs.Printing.{ExprPrinted, SidesPrinted}
use Rattle.printer.proofs.Adding.{also, same_steps}
use Rattle.printer.proofs.ReadyParts.{ready_next}
use Rattle.printer.proofs.write.Printer.sides.Goals as goal

pub returns : goal.returns
returns c =
    on_ok_weaker {P = ExprPrinted _ _ _ _} {Q = SidesPrinted _ _ _ _} _ (λ q a b ready other.
    let u = also (c.in_ok-expr.ensures a ready) c.in_ok-put.ensures in
    let v = q b (ready_next u other (omega (arith, u.pos))) in
    same_steps (also u v) (omega arith) refl) c.expr-2.ensures
