use Rattle.std.proofs.Common.{◌≡◌, ◌+◌, length, sym, ◌∙◌, arith}
use Rattle.program.specs.Encoding.{encode_expr, encode_test, encode_stmt}
use Rattle.encoding.proofs.Parts.{stmt_within, stmt_below, skip_at, assign_at, store_at, input_at, check_at, seq_at, branch_at, loop_at}
use Rattle.runner.proofs.Placed.{placed}
use Rattle.runner.proofs.skip.+skip_stmt.Goals as goal

pub returns-in-0 : goal.returns-in-0
returns-in-0 t c d h =
    let p = skip_at _ _ d h.stands (sym c.byte_at.ensures ∙ c.in-0.is) in
    omega (arith, stmt_within _ _ d h.stands, p.long, c.saturating_add.ensures)

pub returns-in-1 : goal.returns-in-1
returns-in-1 t c d h =
    let p = assign_at _ _ d h.stands (sym c.byte_at.ensures ∙ c.in-1.is) in
    let next : c.saturating_add-in-1.result ≡ c.args.pos + 10 = omega (arith, stmt_within _ _ d h.stands, p.long, c.saturating_add-in-1.ensures) in
    let a = c.skip_expr.ensures p.e (placed _ _ _ _ _ next p.value (omega (arith, p.long, h.enough))) in
    omega (arith, a, next, p.long)

pub returns-in-2 : goal.returns-in-2
returns-in-2 t c d h =
    let p = store_at _ _ d h.stands (sym c.byte_at.ensures ∙ c.in-2.is) in
    let next : c.saturating_add-in-2.result ≡ c.args.pos + 10 = omega (arith, stmt_within _ _ d h.stands, p.long, c.saturating_add-in-2.ensures) in
    let mid : c.saturating_add-in-2.result + length (encode_expr p.a) ≡ c.args.pos + 10 + length (encode_expr p.a) = omega (arith, next) in
    let b = c.skip_exprs.ensures p.a p.e (placed _ _ _ _ _ next p.index (omega (arith, p.long, h.enough))) (placed _ _ _ _ _ mid p.value (omega (arith, p.long, h.enough))) in
    omega (arith, b, next, p.long)

pub returns-in-3 : goal.returns-in-3
returns-in-3 t c d h =
    let p = input_at _ _ d h.stands (sym c.byte_at.ensures ∙ c.in-3.is) in
    omega (arith, stmt_within _ _ d h.stands, p.long, c.saturating_add-in-3.ensures)

pub returns-in-4 : goal.returns-in-4
returns-in-4 t c d h =
    let p = check_at _ _ d h.stands (sym c.byte_at.ensures ∙ c.in-4.is) in
    let next : c.saturating_add-in-4.result ≡ c.args.pos + 9 = omega (arith, stmt_within _ _ d h.stands, p.long, c.saturating_add-in-4.ensures) in
    let a = c.skip_test.ensures p.t (placed _ _ _ _ _ next p.condition (omega (arith, p.long, h.enough))) in
    omega (arith, a, next, p.long)

pub returns-in-5 : goal.returns-in-5
returns-in-5 t c d h =
    let p = seq_at _ _ d h.stands (sym c.byte_at.ensures ∙ c.in-5.is) in
    let next : c.saturating_add-in-5.result ≡ c.args.pos + 1 = omega (arith, stmt_within _ _ d h.stands, p.long, c.saturating_add-in-5.ensures) in
    let a = c.skip_stmt-second.ensures p.a (placed _ _ _ _ _ next p.first (omega (arith, p.long, h.enough))) in
    let mid : c.skip_stmt-second.result ≡ c.args.pos + 1 + length (encode_stmt p.a) = omega (arith, a, next) in
    let b = c.skip_stmt.ensures p.b (placed _ _ _ _ _ mid p.second (omega (arith, p.long, h.enough))) in
    omega (arith, b, mid, p.long)

pub returns-in-6 : goal.returns-in-6
returns-in-6 t c d h =
    let p = branch_at _ _ d h.stands (sym c.byte_at.ensures ∙ c.in-6.is) in
    let next : c.saturating_add-in-6.result ≡ c.args.pos + 9 = omega (arith, stmt_within _ _ d h.stands, p.long, c.saturating_add-in-6.ensures) in
    let a = c.skip_test-first.ensures p.t (placed _ _ _ _ _ next p.condition (omega (arith, p.long, h.enough))) in
    let yes : c.skip_test-first.result ≡ c.args.pos + 9 + length (encode_test p.t) = omega (arith, a, next) in
    let b = c.skip_stmt-second-in-6.ensures p.a (placed _ _ _ _ _ yes p.first (omega (arith, p.long, h.enough))) in
    let no : c.skip_stmt-second-in-6.result ≡ c.args.pos + 9 + length (encode_test p.t) + length (encode_stmt p.a) = omega (arith, b, yes) in
    let last = c.skip_stmt-in-6.ensures p.b (placed _ _ _ _ _ no p.second (omega (arith, p.long, h.enough))) in
    omega (arith, last, no, p.long)

pub returns-in-7 : goal.returns-in-7
returns-in-7 t c d h =
    let p = loop_at _ _ d h.stands (sym c.byte_at.ensures ∙ c.in-7.is) in
    let next : c.saturating_add-in-7.result ≡ c.args.pos + 9 = omega (arith, stmt_within _ _ d h.stands, p.long, c.saturating_add-in-7.ensures) in
    let a = c.skip_test-body.ensures p.t (placed _ _ _ _ _ next p.condition (omega (arith, p.long, h.enough))) in
    let body : c.skip_test-body.result ≡ c.args.pos + 9 + length (encode_test p.t) = omega (arith, a, next) in
    let b = c.skip_stmt-in-7.ensures p.a (placed _ _ _ _ _ body p.body (omega (arith, p.long, h.enough))) in
    omega (arith, b, body, p.long)

pub returns-in_default : goal.returns-in_default
returns-in_default t c d h = absurd (omega (arith, stmt_below _ _ d h.stands, c.byte_at.ensures))
