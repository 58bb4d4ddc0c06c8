-- The number that is asked for, another, or none.
use Rattle.std.proofs.Common.{eqb, arith}
use Rattle.std.proofs.lemmas.Bool.{eqb-true, eq-eqb, ne_eqb}
use Rattle.scanner.proofs.Parts.{eight_past, eight_wrong, eight_found}
use Rattle.scanner.proofs.scan.scan_label.Goals as goal

pub returns-in_err-n : goal.returns-in_err-n
returns-in_err-n c = rw c.from_residual.ensures (eight_past (λ p. eqb p c.args.label) c.args.text.now c.args.pos c.in_err-n.ensures)

pub returns-then-n-label : goal.returns-then-n-label
returns-then-n-label c =
    let a = c.args in
    eight_found (λ p. eqb p a.label) a.text.now a.pos c.in_ok-n.n c.in_ok-n.ensures
    (eq-eqb c.in_ok-n.n a.label c.if-n-label.true)

pub returns-else-n-label : goal.returns-else-n-label
returns-else-n-label c =
    let a = c.args in
    eight_wrong (λ p. eqb p a.label) a.text.now a.pos c.in_ok-n.n (λ m e. omega (arith, eqb-true m a.label e, c.ranges.label)) c.in_ok-n.ensures
    (ne_eqb c.in_ok-n.n a.label c.if-n-label.false)
