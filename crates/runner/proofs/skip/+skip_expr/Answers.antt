use Rattle.std.proofs.Common.{◌≡◌, ◌+◌, length, sym, ◌∙◌, arith}
use Rattle.program.specs.Encoding.{encode_expr}
use Rattle.encoding.proofs.Parts.{expr_within, expr_below, number_at, variable_at, binary_at, element_at}
use Rattle.runner.proofs.Placed.{placed}
use Rattle.runner.proofs.skip.+skip_expr.Goals as goal

pub returns-in-0 : goal.returns-in-0
returns-in-0 t c e h =
    let p = number_at _ _ e h.stands (sym c.byte_at.ensures ∙ c.in-0.is) in
    omega (arith, expr_within _ _ e h.stands, p.long, c.saturating_add.ensures)

pub returns-in-1 : goal.returns-in-1
returns-in-1 t c e h =
    let p = variable_at _ _ e h.stands (sym c.byte_at.ensures ∙ c.in-1.is) in
    omega (arith, expr_within _ _ e h.stands, p.long, c.saturating_add-in-1.ensures)

pub returns-in-2 : goal.returns-in-2
returns-in-2 t c e h =
    let p = binary_at _ _ e h.stands (sym c.byte_at.ensures ∙ c.in-2.is) in
    let next : c.saturating_add-in-2.result ≡ c.args.pos + 2 = omega (arith, expr_within _ _ e h.stands, p.long, c.saturating_add-in-2.ensures) in
    let a = c.skip_expr-mid.ensures p.a (placed _ _ _ _ _ next p.left (omega (arith, p.long, h.enough))) in
    let mid : c.skip_expr-mid.result ≡ c.args.pos + 2 + length (encode_expr p.a) = omega (arith, a, next) in
    let b = c.skip_expr.ensures p.b (placed _ _ _ _ _ mid p.right (omega (arith, p.long, h.enough))) in
    omega (arith, b, mid, p.long)

pub returns-in-3 : goal.returns-in-3
returns-in-3 t c e h =
    let p = element_at _ _ e h.stands (sym c.byte_at.ensures ∙ c.in-3.is) in
    let next : c.saturating_add-in-3.result ≡ c.args.pos + 2 = omega (arith, expr_within _ _ e h.stands, p.long, c.saturating_add-in-3.ensures) in
    let a = c.skip_expr-in-3.ensures p.a (placed _ _ _ _ _ next p.index (omega (arith, p.long, h.enough))) in
    omega (arith, a, next, p.long)

pub returns-in_default : goal.returns-in_default
returns-in_default t c e h = absurd (omega (arith, expr_below _ _ e h.stands, c.byte_at.ensures))
