use Rattle.std.proofs.Common.{refl, ap, ◌∙◌, arith}
use Rattle.std.proofs.lemmas.Bool.Decides.{nat_tests}
use Rattle.state.specs.Of.{as_abstract}
use Rattle.walker.proofs.Statements.{input_range, input_walked}
use Rattle.walker.proofs.simple.input_at.Goals as goal
use Rattle.walker.proofs.simple.input_at.Goals.{in-Some, in_default}

pub returns : goal.returns
returns c t n ms d h s =
    let q = input_range c.args.task.now.lengths.now ms n _ _ _ d h s _ _ c.word_at-lo.ensures c.word_at-hi.ensures in
    elim c.match-new.branch [
      | in-Some w ↦
          let m = rw w.in-Some.is at c.new.ensures in
          input_walked _ ms n _ _ _ d h s _ _ t _ _ _ _ (m.0 ∙ q.0) (m.1 ∙ q.1) w.in-Some.range.ordered c.byte_at-x.ensures
          (ap as_abstract w.state-is ∙ w.put.ensures) refl
      | in_default w ↦ let m = rw w.in_default.is at c.new.ensures in absurd (grind (arith, nat_tests))
    ]
