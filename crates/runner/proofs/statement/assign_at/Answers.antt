use Rattle.std.proofs.Common.{◌≡◌, ◌+◌, arith}
use Rattle.std.proofs.lemmas.Result.{err_from_is_err_and}
use Rattle.encoding.proofs.Lengths.{expr_long}
use Rattle.encoding.proofs.Parts.{expr_within}
use Rattle.runner.proofs.ReadyParts.{expr_moved}
use Rattle.runner.proofs.Statements.{assign_stops, assign_runs}
use Rattle.runner.proofs.statement.assign_at.Goals as goal

pub returns-in_err-found : goal.returns-in_err-found
returns-in_err-found c p e ready =
    let at : c.saturating_add.result ≡ c.args.pos + 1 = omega (arith, expr_within _ _ e ready.placed.stands, expr_long e, c.saturating_add.ensures) in
    let q = c.in_err-found.ensures c.args.task.now.inputs.now e (expr_moved _ _ _ e ready _ at) in
    let r = err_from_is_err_and c.from_residual.result c.from_residual.ensures.1 in
    rw (r.1, r.2) (assign_stops _ _ p _ e _ _ _ q)

pub returns : goal.returns
returns c p e ready =
    let at : c.saturating_add.result ≡ c.args.pos + 1 = omega (arith, expr_within _ _ e ready.placed.stands, expr_long e, c.saturating_add.ensures) in
    let v = c.in_ok-found.ensures c.args.task.now.inputs.now e (expr_moved _ _ _ e ready _ at) in
    record {
      is = assign_runs _ _ p c.byte_at.result _ e _ _ c.byte_at.ensures v.is (c.assign.ensures c.args.task.now.inputs.now);
      end = omega (arith, v.end, at);
    }
