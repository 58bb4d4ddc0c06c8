use Rattle.std.proofs.Common.{◌≡◌, rules}
use borrow.Author.Tests.{tests}
use Rattle.std.proofs.lemmas.Iterator.{IsFirst-from_position, YieldsList-from_slice}
use Rattle.session.specs.declared.rows.Row.{Row}
use Rattle.session.specs.declared.rows.Row.TheVariants.{Alarm}
use Rattle.compare.proofs.Rows.{alarm_found}
use Rattle.compare.proofs.missing.find_alarm.Goals as goal

pub returns : goal.returns
returns c =
    alarm_found c.args.alarms.now _ _ _
    (IsFirst-from_position _ _ c.position.result (λ (x : Row). x ≡ Alarm c.args.stmt c.args.kind) (λ (x : Row). x ≡ Alarm c.args.stmt c.args.kind → ⊥)
    c.position.ensures.ran (YieldsList-from_slice c.args.alarms.now cc) (λ x q k. search (rules, tests)) (λ x q k. search (rules, tests)))
