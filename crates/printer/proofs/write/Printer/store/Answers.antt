use Rattle.std.proofs.Common.{◌∙◌, arith}
use Rattle.std.proofs.lemmas.Result.{on_ok_weaker}
use Rattle.encoding.proofs.Lengths.{expr_long}
use Rattle.encoding.proofs.Parts.{expr_within}
use Rattle.printer.specs.Printing.{ExprPrinted, StorePrinted}
use Rattle.printer.proofs.Adding.{also, same_steps}
use Rattle.printer.proofs.ReadyParts.{ready_next}
use Rattle.printer.proofs.Statements.{store_text}
use Rattle.printer.proofs.write.Printer.store.Goals as goal

pub returns : goal.returns
returns c =
    on_ok_weaker {P = ExprPrinted _ _ _ _} {Q = StorePrinted _ _ _ _} _ (λ q p a e ready other.
    let r = c.byte-r.ensures.passed (omega (arith, expr_within _ _ a ready.placed.stands, expr_long a)) in
    let begun = also (also (also r c.in_ok-indent.ensures) c.in_ok-number.ensures) c.in_ok-put.ensures in
    let i = c.in_ok-expr.ensures a (ready_next begun ready (omega (arith, begun.pos))) in
    let half = also (also begun i) c.in_ok-put-2.ensures in
    let v = q e (ready_next half other (omega (arith, half.pos))) in
    same_steps (also half v) (omega arith) (store_text _ p a e _ _ (c.from.ensures ∙ c.byte-r.ensures.value))) c.expr-2.ensures
