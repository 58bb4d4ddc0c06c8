use Rattle.std.proofs.Common.{List, [], sym, subst}
use Rattle.runner.specs.Whole.{as_outcome}
use Rattle.runner.specs.declared.types.Outcome.{Outcome}
use Rattle.session.specs.Rows.{Has}
use Rattle.session.specs.declared.rows.Row.{Row}
use Rattle.session.specs.declared.rows.Row.TheVariants.{Alarm}
use Rattle.findings.specs.Told.{Tells}
use Rattle.compare.proofs.Rows.{has_at}
use Rattle.compare.proofs.missing.find_missing.Goals as goal

pub returns-in-Some : goal.returns-in-Some
returns-in-Some c =
    let found = has_at _ _ c.in-Some.field-0 c.in-Some.ensures.0 c.in-Some.ensures.1 in
    subst (λ (o : Outcome). Tells c.args.report.now (as_outcome [] o)) (sym c.in-Fault.is)
    (subst (λ (rows : List Row). Has (Alarm c.in-Fault.stmt c.in-Fault.kind) rows) c.deref.ensures.value
    (has_at _ _ c.in-Some.field-0 c.in-Some.ensures.0 c.in-Some.ensures.1))
