use Rattle.std.proofs.Common.{◌≡◌, ℕ, ◌+◌, get_or, sym, ap, ◌∙◌, arith}
use Rattle.std.proofs.lemmas.Result.{err_from_is_err_and}
use Rattle.program.specs.Kinds.{operator_of}
use Rattle.encoding.specs.Standing.{word_at}
use Rattle.encoding.proofs.Lengths.{expr_long}
use Rattle.encoding.proofs.Parts.{expr_within, expr_below, number_at, variable_at, binary_at, element_at}
use Rattle.runner.proofs.ReadyParts.{operands_ready, index_ready, expr_moved}
use Rattle.runner.proofs.Expressions.{number_value, variable_value, left_fails, right_fails, binary_value, index_fails, element_value, operates_as}
use Rattle.runner.proofs.expression.+eval_at.Goals as goal

pub returns-then-left-eq0 : goal.returns-then-left-eq0
returns-then-left-eq0 t c ins e ready = absurd (omega (arith, expr_long e, ready.placed.enough))

pub returns-in_default : goal.returns-in_default
returns-in_default t c ins e ready = absurd (omega (arith, expr_below _ _ e ready.placed.stands, c.byte_at.ensures))

pub returns-in-0 : goal.returns-in-0
returns-in-0 t c ins e ready =
    let h = number_at _ _ e ready.placed.stands (sym c.byte_at.ensures ∙ c.in-0.is) in
    let l = expr_within _ _ e ready.placed.stands in
    let at : c.saturating_add-in-0.result ≡ c.args.pos + 1 = omega (arith, l, h.long, c.saturating_add-in-0.ensures) in
    record {
      is = number_value _ _ _ _ e ready h _ (c.word_at.ensures (omega (arith, l, h.long, at)) ∙ ap (λ (k : ℕ). word_at c.args.text.now k) at);
      end = omega (arith, l, h.long, c.saturating_add-in-0-2.ensures);
    }

pub returns-in-1 : goal.returns-in-1
returns-in-1 t c ins e ready =
    let h = variable_at _ _ e ready.placed.stands (sym c.byte_at.ensures ∙ c.in-1.is) in
    let l = expr_within _ _ e ready.placed.stands in
    let at : c.saturating_add.result ≡ c.args.pos + 1 = omega (arith, l, h.long, c.saturating_add.ensures) in
    record {
      is = variable_value _ _ _ e h c.byte_at-second.result _ (c.byte_at-second.ensures ∙ ap (λ (k : ℕ). get_or c.args.text.now k 0) at) (c.variable.ensures ins);
      end = omega (arith, l, h.long, c.saturating_add-next.ensures);
    }

pub returns-in_err-a-in-2 : goal.returns-in_err-a-in-2
returns-in_err-a-in-2 t c ins e ready =
    let h = binary_at _ _ e ready.placed.stands (sym c.byte_at.ensures ∙ c.in-2.is) in
    let next : c.saturating_add-next.result ≡ c.args.pos + 2 = omega (arith, expr_within _ _ e ready.placed.stands, h.long, c.saturating_add-next.ensures) in
    let p = err_from_is_err_and c.from_residual.result c.from_residual.ensures.1 in
    rw (p.1, p.2) (left_fails _ _ _ e h _ (c.in_err-a-in-2.ensures ins h.a (operands_ready _ _ _ e ready h _ next).0))

pub returns-in_err-b-in-2 : goal.returns-in_err-b-in-2
returns-in_err-b-in-2 t c ins e ready =
    let h = binary_at _ _ e ready.placed.stands (sym c.byte_at.ensures ∙ c.in-2.is) in
    let next : c.saturating_add-next.result ≡ c.args.pos + 2 = omega (arith, expr_within _ _ e ready.placed.stands, h.long, c.saturating_add-next.ensures) in
    let two = operands_ready _ _ _ e ready h _ next in
    let a = c.in_ok-a-in-2.ensures ins h.a two.0 in
    let p = err_from_is_err_and c.from_residual-in_err-b-in-2.result c.from_residual-in_err-b-in-2.ensures.1 in
    rw (p.1, p.2) (right_fails _ _ _ e h _ _ a.is (c.in_err-b-in-2.ensures ins h.b (expr_moved _ _ _ _ two.1 _ a.end)))

pub returns-in_err-value-in-2 : goal.returns-in_err-value-in-2
returns-in_err-value-in-2 t c ins e ready =
    let h = binary_at _ _ e ready.placed.stands (sym c.byte_at.ensures ∙ c.in-2.is) in
    let l = expr_within _ _ e ready.placed.stands in
    let at : c.saturating_add.result ≡ c.args.pos + 1 = omega (arith, l, h.long, c.saturating_add.ensures) in
    let next : c.saturating_add-next.result ≡ c.args.pos + 2 = omega (arith, l, h.long, c.saturating_add-next.ensures) in
    let two = operands_ready _ _ _ e ready h _ next in
    let a = c.in_ok-a-in-2.ensures ins h.a two.0 in
    let b = c.in_ok-b-in-2.ensures ins h.b (expr_moved _ _ _ _ two.1 _ a.end) in
    let is = binary_value _ _ _ e h c.byte_at-second.result _ _ (c.byte_at-second.ensures ∙ ap (λ (k : ℕ). get_or c.args.text.now k 0) at) a.is b.is in
    let does = operates_as c.byte_at-second.result c.in_ok-a-in-2.a.value c.in_ok-b-in-2.b.value c.from-op.result (c.from-op.ensures ∙ ap operator_of c.from.ensures) in
    let p = err_from_is_err_and c.from_residual-in_err-value-in-2.result c.from_residual-in_err-value-in-2.ensures.1 in
    rw (p.1, p.2) (is ∙ sym (c.in_err-value-in-2.ensures ∙ does))

pub returns-in_ok-value-in-2 : goal.returns-in_ok-value-in-2
returns-in_ok-value-in-2 t c ins e ready =
    let h = binary_at _ _ e ready.placed.stands (sym c.byte_at.ensures ∙ c.in-2.is) in
    let l = expr_within _ _ e ready.placed.stands in
    let at : c.saturating_add.result ≡ c.args.pos + 1 = omega (arith, l, h.long, c.saturating_add.ensures) in
    let next : c.saturating_add-next.result ≡ c.args.pos + 2 = omega (arith, l, h.long, c.saturating_add-next.ensures) in
    let two = operands_ready _ _ _ e ready h _ next in
    let a = c.in_ok-a-in-2.ensures ins h.a two.0 in
    let b = c.in_ok-b-in-2.ensures ins h.b (expr_moved _ _ _ _ two.1 _ a.end) in
    let is = binary_value _ _ _ e h c.byte_at-second.result _ _ (c.byte_at-second.ensures ∙ ap (λ (k : ℕ). get_or c.args.text.now k 0) at) a.is b.is in
    let does = operates_as c.byte_at-second.result c.in_ok-a-in-2.a.value c.in_ok-b-in-2.b.value c.from-op.result (c.from-op.ensures ∙ ap operator_of c.from.ensures) in
    record { is = is ∙ sym (c.in_ok-value-in-2.ensures ∙ does); end = omega (arith, h.long, next, a.end, b.end) }

pub returns-in_err-index-in-3 : goal.returns-in_err-index-in-3
returns-in_err-index-in-3 t c ins e ready =
    let h = element_at _ _ e ready.placed.stands (sym c.byte_at.ensures ∙ c.in-3.is) in
    let next : c.saturating_add-next.result ≡ c.args.pos + 2 = omega (arith, expr_within _ _ e ready.placed.stands, h.long, c.saturating_add-next.ensures) in
    let p = err_from_is_err_and c.from_residual-in_err-index-in-3.result c.from_residual-in_err-index-in-3.ensures.1 in
    rw (p.1, p.2) (index_fails _ _ _ e h _ (c.in_err-index-in-3.ensures ins h.a (index_ready _ _ _ e ready h _ next)))

pub returns-in_err-value-in-3 : goal.returns-in_err-value-in-3
returns-in_err-value-in-3 t c ins e ready =
    let h = element_at _ _ e ready.placed.stands (sym c.byte_at.ensures ∙ c.in-3.is) in
    let l = expr_within _ _ e ready.placed.stands in
    let at : c.saturating_add.result ≡ c.args.pos + 1 = omega (arith, l, h.long, c.saturating_add.ensures) in
    let next : c.saturating_add-next.result ≡ c.args.pos + 2 = omega (arith, l, h.long, c.saturating_add-next.ensures) in
    let a = c.in_ok-index-in-3.ensures ins h.a (index_ready _ _ _ e ready h _ next) in
    let is = element_value _ _ _ e h c.byte_at-second.result _ (c.byte_at-second.ensures ∙ ap (λ (k : ℕ). get_or c.args.text.now k 0) at) a.is in
    let p = err_from_is_err_and c.from_residual-in_err-value-in-3.result c.from_residual-in_err-value-in-3.ensures.1 in
    rw (p.1, p.2) (is ∙ sym (c.in_err-value-in-3.ensures ins))

pub returns-in_ok-value-in-3 : goal.returns-in_ok-value-in-3
returns-in_ok-value-in-3 t c ins e ready =
    let h = element_at _ _ e ready.placed.stands (sym c.byte_at.ensures ∙ c.in-3.is) in
    let l = expr_within _ _ e ready.placed.stands in
    let at : c.saturating_add.result ≡ c.args.pos + 1 = omega (arith, l, h.long, c.saturating_add.ensures) in
    let next : c.saturating_add-next.result ≡ c.args.pos + 2 = omega (arith, l, h.long, c.saturating_add-next.ensures) in
    let a = c.in_ok-index-in-3.ensures ins h.a (index_ready _ _ _ e ready h _ next) in
    let is = element_value _ _ _ e h c.byte_at-second.result _ (c.byte_at-second.ensures ∙ ap (λ (k : ℕ). get_or c.args.text.now k 0) at) a.is in
    record { is = is ∙ sym (c.in_ok-value-in-3.ensures ins); end = omega (arith, h.long, next, a.end) }
