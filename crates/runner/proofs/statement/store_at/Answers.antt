use Rattle.std.proofs.Common.{◌≡◌, ◌+◌, length, arith}
use Rattle.std.proofs.lemmas.Result.{err_from_is_err_and}
use Rattle.program.specs.Encoding.{encode_expr}
use Rattle.encoding.proofs.Lengths.{expr_long}
use Rattle.encoding.proofs.Parts.{expr_within}
use Rattle.runner.specs.Of.{as_state}
use Rattle.runner.proofs.ReadyParts.{expr_moved}
use Rattle.runner.proofs.Statements.{store_stops, store_none, store_runs}
use Rattle.runner.proofs.statement.store_at.Goals as goal

pub returns-in_err-pair : goal.returns-in_err-pair
returns-in_err-pair c p a e ready next =
    let at : c.saturating_add.result ≡ c.args.pos + 1 = omega (arith, expr_within _ _ a ready.placed.stands, expr_long a, c.saturating_add.ensures) in
    let mid : c.saturating_add.result + length (encode_expr a) ≡ c.args.pos + 1 + length (encode_expr a) = omega arith in
    let q = c.in_err-pair.ensures c.args.task.now.inputs.now a e (expr_moved _ _ _ a ready _ at) (expr_moved _ _ _ e next _ mid) in
    let r = err_from_is_err_and c.from_residual.result c.from_residual.ensures.1 in
    rw (r.1, r.2) (store_stops _ _ p _ a e _ _ _ q)

pub returns-in_err-store : goal.returns-in_err-store
returns-in_err-store c p a e ready next =
    let at : c.saturating_add.result ≡ c.args.pos + 1 = omega (arith, expr_within _ _ a ready.placed.stands, expr_long a, c.saturating_add.ensures) in
    let mid : c.saturating_add.result + length (encode_expr a) ≡ c.args.pos + 1 + length (encode_expr a) = omega arith in
    let v = c.in_ok-pair.ensures c.args.task.now.inputs.now a e (expr_moved _ _ _ a ready _ at) (expr_moved _ _ _ e next _ mid) in
    let r = err_from_is_err_and c.from_residual-in_err-store.result c.from_residual-in_err-store.ensures.1 in
    rw (r.1, r.2) (store_none _ _ p c.byte_at.result _ a e _ _ _ (as_state c.args.task.now.inputs.now c.store.new.self) c.byte_at.ensures v.first_is v.second_is
    (c.in_err-store.ensures c.args.task.now.inputs.now))

pub returns : goal.returns
returns c p a e ready next =
    let at : c.saturating_add.result ≡ c.args.pos + 1 = omega (arith, expr_within _ _ a ready.placed.stands, expr_long a, c.saturating_add.ensures) in
    let mid : c.saturating_add.result + length (encode_expr a) ≡ c.args.pos + 1 + length (encode_expr a) = omega arith in
    let v = c.in_ok-pair.ensures c.args.task.now.inputs.now a e (expr_moved _ _ _ a ready _ at) (expr_moved _ _ _ e next _ mid) in
    record {
      is = store_runs _ _ p c.byte_at.result _ a e _ _ _ _ c.byte_at.ensures v.first_is v.second_is (c.in_ok-store.ensures c.args.task.now.inputs.now);
      end = omega (arith, v.end, at);
    }
