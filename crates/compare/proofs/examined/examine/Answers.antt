use Rattle.std.proofs.Common.{sym, subst}
use Rattle.program.specs.Semantics.{Outcome}
use Rattle.findings.specs.Told.{Tells}
use Rattle.compare.proofs.Rows.{finds_none}
use Rattle.compare.proofs.examined.examine.Goals as goal

pub returns : goal.returns
returns c =
    finds_none c.in_ok-report.report c.in_ok-outcome.outcome c.args.inputs.now c.find_missing.result
    (subst (λ (o : Outcome). Tells c.in_ok-report.report o) (sym c.in_ok-outcome.ensures)
    (c.in_ok-report.ensures.tells c.args.rounds c.args.inputs.now))
    c.find_missing.ensures
