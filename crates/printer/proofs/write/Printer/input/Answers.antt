use Rattle.std.proofs.Common.{refl, ◌∙◌, arith}
use Rattle.std.proofs.lemmas.Result.{on_ok_weaker}
use Rattle.printer.specs.Printing.{Prints, InputPrinted}
use Rattle.printer.proofs.Adding.{also, same_steps}
use Rattle.printer.proofs.Words.{eight_inside, word_next}
use Rattle.printer.proofs.Statements.{input_text}
use Rattle.printer.proofs.write.Printer.input.Goals as goal

pub returns : goal.returns
returns c =
    on_ok_weaker {P = Prints _ _ _ _} {Q = InputPrinted _ _ _} _ (λ q p a b h.
    let inside = eight_inside _ _ b h.high in
    let one = c.byte-x.ensures.passed (omega (arith, inside)) in
    let low = also one (c.word-low.ensures.passed (omega (arith, inside, one.pos))) in
    let high = also low (c.word-high.ensures.passed (omega (arith, inside, low.pos))) in
    same_steps (also (also (also (also high c.in_ok-indent.ensures) c.in_ok-number.ensures) c.in_ok-number-2.ensures) q) refl
    (input_text _ p _ _ _ a _ b (c.from.ensures ∙ c.byte-x.ensures.value)
    (word_next one h.low (omega (arith, h.low_small)) one.pos c.word-low.ensures.value)
    (word_next low h.high (omega (arith, h.high_small)) (omega (arith, low.pos)) c.word-high.ensures.value))) c.number-3.ensures
