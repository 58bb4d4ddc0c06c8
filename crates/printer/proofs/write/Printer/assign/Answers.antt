use Rattle.std.proofs.Common.{◌∙◌, arith}
use Rattle.std.proofs.lemmas.Result.{on_ok_weaker}
use Rattle.encoding.proofs.Lengths.{expr_long}
use Rattle.encoding.proofs.Parts.{expr_within}
use Rattle.printer.specs.Printing.{ExprPrinted, AssignPrinted}
use Rattle.printer.proofs.Adding.{also, same_steps}
use Rattle.printer.proofs.ReadyParts.{ready_next}
use Rattle.printer.proofs.Statements.{assign_text}
use Rattle.printer.proofs.write.Printer.assign.Goals as goal

pub returns : goal.returns
returns c =
    on_ok_weaker {P = ExprPrinted _ _ _ _} {Q = AssignPrinted _ _ _ _} _ (λ q p e ready.
    let a = c.byte-x.ensures.passed (omega (arith, expr_within _ _ e ready.placed.stands, expr_long e)) in
    let begun = also (also (also a c.in_ok-indent.ensures) c.in_ok-number.ensures) c.in_ok-put.ensures in
    let v = q e (ready_next begun ready (omega (arith, begun.pos))) in
    same_steps (also begun v) (omega arith) (assign_text _ p e _ _ (c.from.ensures ∙ c.byte-x.ensures.value))) c.expr.ensures
