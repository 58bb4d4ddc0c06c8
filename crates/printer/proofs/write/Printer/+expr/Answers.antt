use Rattle.std.proofs.Common.{sym, refl, ap, ◌∙◌, arith}
use Rattle.std.proofs.lemmas.Result.{on_ok_weaker}
use Rattle.program.specs.Kinds.{operator_code}
use Rattle.program.specs.declared.operator.Operator.{Operator}
use Rattle.encoding.proofs.Lengths.{expr_long}
use Rattle.encoding.proofs.Parts.{expr_within, expr_below, number_at, variable_at, binary_at, element_at}
use Rattle.printer.specs.Text.{sign_text}
use Rattle.printer.specs.Printing.{Prints, ExprPrinted}
use Rattle.printer.proofs.Adding.{also, same_steps}
use Rattle.printer.proofs.ReadyParts.{number_small, operands_ready, index_ready, ready_next}
use Rattle.printer.proofs.Expressions.{number_text, variable_text, binary_text, element_text}
use Rattle.printer.proofs.Words.{byte_next, word_next}
use Rattle.printer.proofs.write.Printer.+expr.Goals as goal

pub returns-then-left-eq0 : goal.returns-then-left-eq0
returns-then-left-eq0 t c e ready = absurd (omega (arith, expr_long e, ready.placed.enough))

pub returns-in_default : goal.returns-in_default
returns-in_default t c e ready = absurd (omega (arith, expr_below _ _ e ready.placed.stands, c.byte.ensures.value))

pub returns-in-0 : goal.returns-in-0
returns-in-0 t c =
    on_ok_weaker {P = Prints _ _ _ _} {Q = ExprPrinted _ _ _ _} _ (λ q e ready.
    let h = number_at _ _ e ready.placed.stands (sym c.byte.ensures.value ∙ c.in-0.is) in
    let l = expr_within _ _ e ready.placed.stands in
    let small = number_small _ _ _ e ready h in
    let a = c.byte.ensures.passed (omega (arith, l, h.long)) in
    let b = c.word-n.ensures.passed (omega (arith, l, h.long, a.pos)) in
    same_steps (also (also a b) q) (omega (arith, h.long)) (number_text _ _ e h _ _ (word_next a h.word (omega arith) a.pos c.word-n.ensures.value))) c.number.ensures

pub returns-in-1 : goal.returns-in-1
returns-in-1 t c =
    on_ok_weaker {P = Prints _ _ _ _} {Q = ExprPrinted _ _ _ _} _ (λ q e ready.
    let h = variable_at _ _ e ready.placed.stands (sym c.byte.ensures.value ∙ c.in-1.is) in
    let l = expr_within _ _ e ready.placed.stands in
    let a = c.byte.ensures.passed (omega (arith, l, h.long)) in
    let b = c.byte-x.ensures.passed (omega (arith, l, h.long, a.pos)) in
    same_steps (also (also a b) q) (omega (arith, h.long)) (variable_text _ _ e h _ _ (c.from.ensures ∙ byte_next a a.pos c.byte-x.ensures.value))) c.number-in-1.ensures

pub returns-in_ok-expr-in-2-2 : goal.returns-in_ok-expr-in-2-2
returns-in_ok-expr-in-2-2 t c =
    on_ok_weaker {P = Prints _ _ _ _} {Q = ExprPrinted _ _ _ _} _ (λ q e ready.
    let h = binary_at _ _ e ready.placed.stands (sym c.byte.ensures.value ∙ c.in-2.is) in
    let l = expr_within _ _ e ready.placed.stands in
    let a = c.byte.ensures.passed (omega (arith, l, h.long)) in
    let b = c.byte-op.ensures.passed (omega (arith, l, h.long, a.pos)) in
    let two = operands_ready _ _ _ e ready h _ refl in
    let begun = also (also a b) c.in_ok-bracket-in-2.ensures in
    let u = c.in_ok-expr-in-2.ensures h.a (ready_next begun two.0 (omega (arith, begun.pos))) in
    let half = also (also begun u) c.in_ok-put-in-2.ensures in
    let v = c.in_ok-expr-in-2-2.ensures h.b (ready_next half two.1 (omega (arith, half.pos))) in
    same_steps (also (also half v) q) (omega (arith, h.long))
    (binary_text _ _ e h _ _ _ (c.sign.ensures ∙ ap (λ (op : Operator). sign_text (operator_code op)) c.from-in-2-2.ensures) (c.from-in-2.ensures ∙ byte_next a a.pos c.byte-op.ensures.value))) c.bracket-in-2.ensures

pub returns-in_ok-expr-in-3 : goal.returns-in_ok-expr-in-3
returns-in_ok-expr-in-3 t c =
    on_ok_weaker {P = Prints _ _ _ _} {Q = ExprPrinted _ _ _ _} _ (λ q e ready.
    let h = element_at _ _ e ready.placed.stands (sym c.byte.ensures.value ∙ c.in-3.is) in
    let l = expr_within _ _ e ready.placed.stands in
    let a = c.byte.ensures.passed (omega (arith, l, h.long)) in
    let b = c.byte-r.ensures.passed (omega (arith, l, h.long, a.pos)) in
    let begun = also (also (also a b) c.in_ok-number-in-3.ensures) c.in_ok-put-in-3.ensures in
    let u = c.in_ok-expr-in-3.ensures h.a (ready_next begun (index_ready _ _ _ e ready h _ refl) (omega (arith, begun.pos))) in
    same_steps (also (also begun u) q) (omega (arith, h.long)) (element_text _ _ e h _ _ (c.from-in-3.ensures ∙ byte_next a a.pos c.byte-r.ensures.value))) c.put-in-3-2.ensures
