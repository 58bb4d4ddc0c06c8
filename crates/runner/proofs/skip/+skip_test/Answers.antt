use Rattle.std.proofs.Common.{◌≡◌, ◌+◌, length, sym, ◌∙◌, arith}
use Rattle.program.specs.Encoding.{encode_expr, encode_test}
use Rattle.encoding.proofs.Parts.{test_within, test_below, not_at}
use Rattle.runner.proofs.Placed.{placed, compare_at, both_at}
use Rattle.runner.proofs.skip.+skip_test.Goals as goal

pub returns-in-0 : goal.returns-in-0
returns-in-0 t c x h =
    let p = compare_at _ _ x h.stands (omega (arith, c.byte_at.ensures)) in
    let next : c.saturating_add-next.result ≡ c.args.pos + 1 = omega (arith, test_within _ _ x h.stands, p.long, c.saturating_add-next.ensures) in
    let mid : c.saturating_add-next.result + length (encode_expr p.a) ≡ c.args.pos + 1 + length (encode_expr p.a) = omega (arith, next) in
    let b = c.skip_exprs.ensures p.a p.b (placed _ _ _ _ _ next p.left (omega (arith, p.long, h.enough))) (placed _ _ _ _ _ mid p.right (omega (arith, p.long, h.enough))) in
    omega (arith, b, next, p.long)

pub returns-in-2 : goal.returns-in-2
returns-in-2 t c x h =
    let p = not_at _ _ x h.stands (sym c.byte_at.ensures ∙ c.in-2.is) in
    let next : c.saturating_add-next.result ≡ c.args.pos + 1 = omega (arith, test_within _ _ x h.stands, p.long, c.saturating_add-next.ensures) in
    let a = c.skip_test.ensures p.t (placed _ _ _ _ _ next p.inner (omega (arith, p.long, h.enough))) in
    omega (arith, a, next, p.long)

pub returns-in-3 : goal.returns-in-3
returns-in-3 t c x h =
    let p = both_at _ _ x h.stands (omega (arith, c.byte_at.ensures)) (omega (arith, c.byte_at.ensures)) in
    let next : c.saturating_add-next.result ≡ c.args.pos + 1 = omega (arith, test_within _ _ x h.stands, p.long, c.saturating_add-next.ensures) in
    let a = c.skip_test-mid.ensures p.t (placed _ _ _ _ _ next p.first (omega (arith, p.long, h.enough))) in
    let mid : c.skip_test-mid.result ≡ c.args.pos + 1 + length (encode_test p.t) = omega (arith, a, next) in
    let b = c.skip_test-in-3.ensures p.u (placed _ _ _ _ _ mid p.second (omega (arith, p.long, h.enough))) in
    omega (arith, b, mid, p.long)

pub returns-in_default : goal.returns-in_default
returns-in_default t c x h = absurd (omega (arith, test_below _ _ x h.stands, c.byte_at.ensures))
