use Rattle.std.proofs.Common.{ℕ, ◌+◌, eqb, sym, ap, ◌∙◌, arith, take_all, eq-eqb, ne_eqb}
use Rattle.std.proofs.lemmas.List.Sums.{count_by_more_yes, count_by_more_no}
use Rattle.place.specs.Lines.{newlines}
use Rattle.place.proofs.count_newlines.Goals as goal
use Rattle.place.proofs.count_newlines.Goals.{then-b-eq10, else-b-eq10}

pub loop-b-preserved : goal.loop-b-preserved
loop-b-preserved c =
    elim c.if-b-eq10.branch [
      | then-b-eq10 w ↦ (
        omega (arith, w.count-is),
        w.count-is ∙ ap (λ (n : ℕ). n + 1) c.loop-b.invariant.1
            ∙ sym (count_by_more_yes (λ (b : ℕ). eqb b 10) c.args.bytes.now c.loop-b.b-index 0 c.loop-b-test.true (eq-eqb _ 10 w.if-b-eq10.true)),
      )
      | else-b-eq10 w ↦ (
        omega (arith, w.count-is),
        w.count-is ∙ c.loop-b.invariant.1
            ∙ sym (count_by_more_no (λ (b : ℕ). eqb b 10) c.args.bytes.now c.loop-b.b-index 0 c.loop-b-test.true (ne_eqb _ 10 w.if-b-eq10.false)),
      )
    ]

pub returns : goal.returns
returns c = record {
  is = c.loop-b.invariant.1 ∙ ap newlines (take_all c.loop-b.b-index c.args.bytes.now c.loop-b-test.false);
  within = omega (arith, c.loop-b.invariant.0, c.loop-b.auto.b-index-end);
}
