use Rattle.std.proofs.Common.{sym, refl, ◌∙◌, arith}
use Rattle.std.proofs.lemmas.Result.{on_ok_weaker}
use Rattle.encoding.proofs.Lengths.{test_long}
use Rattle.encoding.proofs.Parts.{test_within, test_below, less_at, equal_at, not_at, and_at, or_at}
use Rattle.printer.specs.Printing.{Prints, SidesPrinted, TestPrinted, TestsPrinted}
use Rattle.printer.proofs.Adding.{also, same_steps}
use Rattle.printer.proofs.ReadyParts.{ready_next, less_ready, equal_ready, inner_ready, and_ready, or_ready}
use Rattle.printer.proofs.Tests.{less_text, equal_text, not_text, and_text, or_text}
use Rattle.printer.proofs.write.Printer.+conditions.Goals as goal

pub test-returns-then-left-eq0 : goal.test-returns-then-left-eq0
test-returns-then-left-eq0 t c x ready = absurd (omega (arith, test_long x, ready.placed.enough))

pub test-returns-in_default : goal.test-returns-in_default
test-returns-in_default t c x ready = absurd (omega (arith, test_below _ _ x ready.placed.stands, c.byte.ensures.value))

pub test-returns-in-0 : goal.test-returns-in-0
test-returns-in-0 t c =
    on_ok_weaker {P = SidesPrinted _ _ _ _} {Q = TestPrinted _ _ _} _ (λ q x ready.
    let h = less_at _ _ x ready.placed.stands (sym c.byte.ensures.value ∙ c.in-0.is) in
    let a = c.byte.ensures.passed (omega (arith, test_within _ _ x ready.placed.stands, h.long)) in
    let two = less_ready _ _ _ x ready h _ refl in
    same_steps (also a (q h.a h.b (ready_next a two.0 a.pos) (ready_next a two.1 (omega (arith, a.pos))))) (omega (arith, h.long)) (less_text _ _ x h)) c.sides.ensures

pub test-returns-in-1 : goal.test-returns-in-1
test-returns-in-1 t c =
    on_ok_weaker {P = SidesPrinted _ _ _ _} {Q = TestPrinted _ _ _} _ (λ q x ready.
    let h = equal_at _ _ x ready.placed.stands (sym c.byte.ensures.value ∙ c.in-1.is) in
    let a = c.byte.ensures.passed (omega (arith, test_within _ _ x ready.placed.stands, h.long)) in
    let two = equal_ready _ _ _ x ready h _ refl in
    same_steps (also a (q h.a h.b (ready_next a two.0 a.pos) (ready_next a two.1 (omega (arith, a.pos))))) (omega (arith, h.long)) (equal_text _ _ x h)) c.sides-in-1.ensures

pub test-returns-in-3 : goal.test-returns-in-3
test-returns-in-3 t c =
    on_ok_weaker {P = TestsPrinted _ _ _ _} {Q = TestPrinted _ _ _} _ (λ q x ready.
    let h = and_at _ _ x ready.placed.stands (sym c.byte.ensures.value ∙ c.in-3.is) in
    let a = c.byte.ensures.passed (omega (arith, test_within _ _ x ready.placed.stands, h.long)) in
    let two = and_ready _ _ _ x ready h _ refl in
    same_steps (also a (q h.t h.u (ready_next a two.0 a.pos) (ready_next a two.1 (omega (arith, a.pos))))) (omega (arith, h.long)) (and_text _ _ x h)) c.tests.ensures

pub test-returns-in-4 : goal.test-returns-in-4
test-returns-in-4 t c =
    on_ok_weaker {P = TestsPrinted _ _ _ _} {Q = TestPrinted _ _ _} _ (λ q x ready.
    let h = or_at _ _ x ready.placed.stands (sym c.byte.ensures.value ∙ c.in-4.is) in
    let a = c.byte.ensures.passed (omega (arith, test_within _ _ x ready.placed.stands, h.long)) in
    let two = or_ready _ _ _ x ready h _ refl in
    same_steps (also a (q h.t h.u (ready_next a two.0 a.pos) (ready_next a two.1 (omega (arith, a.pos))))) (omega (arith, h.long)) (or_text _ _ x h)) c.tests-in-4.ensures

pub test-returns-in_ok-test-in-2 : goal.test-returns-in_ok-test-in-2
test-returns-in_ok-test-in-2 t c =
    on_ok_weaker {P = Prints _ _ _ _} {Q = TestPrinted _ _ _} _ (λ q x ready.
    let h = not_at _ _ x ready.placed.stands (sym c.byte.ensures.value ∙ c.in-2.is) in
    let a = c.byte.ensures.passed (omega (arith, test_within _ _ x ready.placed.stands, h.long)) in
    let begun = also a c.in_ok-put-in-2.ensures in
    let u = c.in_ok-test-in-2.ensures h.t (ready_next begun (inner_ready _ _ _ x ready h _ refl) (omega (arith, begun.pos))) in
    same_steps (also (also begun u) q) (omega (arith, h.long)) (not_text _ _ x h)) c.put-in-2.ensures

pub tests-returns : goal.tests-returns
tests-returns t c =
    on_ok_weaker {P = Prints _ _ _ _} {Q = TestsPrinted _ _ _ _} _ (λ q x y ready other.
    let begun = c.in_ok-put.ensures in
    let u = c.in_ok-test.ensures x (ready_next begun ready (omega (arith, begun.pos))) in
    let half = also (also begun u) c.in_ok-put-2.ensures in
    let v = c.in_ok-test-2.ensures y (ready_next half other (omega (arith, half.pos))) in
    same_steps (also (also half v) q) (omega arith) refl) c.put-3.ensures
