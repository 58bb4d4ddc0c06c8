use Rattle.std.proofs.lemmas.Result.{err_from_is_err_and}
use Rattle.runner.proofs.Statements.{check_stops, check_holds, check_fails}
use Rattle.runner.proofs.statement.check_at.Goals as goal

pub returns-in_err-test : goal.returns-in_err-test
returns-in_err-test c p t ready =
    let r = err_from_is_err_and c.from_residual.result c.from_residual.ensures.1 in
    rw (r.1, r.2) (check_stops _ _ p t _ _ _ (c.in_err-test.ensures c.args.task.now.inputs.now t ready))

pub returns-then-test : goal.returns-then-test
returns-then-test c p t ready =
    let v = c.in_ok-test.ensures c.args.task.now.inputs.now t ready in
    record { is = check_holds _ _ p t _ v.is c.if-test.true; end = v.end }

pub returns-else-test : goal.returns-else-test
returns-else-test c p t ready =
    let v = c.in_ok-test.ensures c.args.task.now.inputs.now t ready in
    check_fails _ _ p t _ v.is c.if-test.false
