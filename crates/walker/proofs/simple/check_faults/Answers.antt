use Rattle.std.proofs.Common.{sym, ap, ◌∙◌, subst}
use Rattle.interval.specs.declared.types.Faults.{Faults}
use Rattle.interval.specs.Of.{Faulty}
use Rattle.analysis.specs.Clauses.{check_faults_here}
use Rattle.state.specs.Of.{as_abstract, as_env}
use Rattle.walker.proofs.Statements.{never_fails, can_fail}
use Rattle.walker.proofs.simple.check_faults.Goals as goal

pub returns-in-Unreached : goal.returns-in-Unreached
returns-in-Unreached c stop ns h t s = never_fails ns t h _ (sym (ap as_abstract c.in-Unreached.is) ∙ s.no) s.faults

pub returns-in-Reached : goal.returns-in-Reached
returns-in-Reached c stop ns h t s =
    subst (λ (f : Faults). Faulty f (check_faults_here ns t h)) (sym c.or.ensures)
    (can_fail ns t h (as_env c.in-Reached.field-0) _ _ (sym (ap as_abstract c.in-Reached.is) ∙ s.no) s.faults c.of.ensures)
