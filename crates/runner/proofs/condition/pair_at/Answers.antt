use Rattle.std.proofs.Common.{arith}
use Rattle.std.proofs.lemmas.Result.{err_from_is_err_and}
use Rattle.runner.proofs.ReadyParts.{expr_moved}
use Rattle.runner.proofs.Expressions.{binds, fails_as, fails_on}
use Rattle.runner.proofs.condition.pair_at.Goals as goal

pub returns-in_err-a : goal.returns-in_err-a
returns-in_err-a c ins a b ready next =
    let p = err_from_is_err_and c.from_residual.result c.from_residual.ensures.1 in
    rw (p.1, p.2) (λ f. fails_on _ _ _ (c.in_err-a.ensures ins a ready))

pub returns-in_err-b : goal.returns-in_err-b
returns-in_err-b c ins a b ready next =
    let v = c.in_ok-a.ensures ins a ready in
    let p = err_from_is_err_and c.from_residual-in_err-b.result c.from_residual-in_err-b.ensures.1 in
    rw (p.1, p.2) (λ f. fails_as _ _ _ (binds _ _ _ v.is) (fails_on _ _ _ (c.in_err-b.ensures ins b (expr_moved _ _ _ _ next _ v.end))))

pub returns : goal.returns
returns c ins a b ready next =
    let v = c.in_ok-a.ensures ins a ready in
    let w = c.in_ok-b.ensures ins b (expr_moved _ _ _ _ next _ v.end) in
    record { first_is = v.is; second_is = w.is; end = omega (arith, v.end, w.end) }
