-- Each kind of expression by its first byte: its parts are ready where they stand, and what is found of them makes up the whole.
use Rattle.std.proofs.Common.{inl, inr, ◌≡◌, ◌+◌, length, arith}
use Rattle.program.specs.Encoding.{encode_expr}
use Rattle.encoding.proofs.Parts.{number_at, variable_at, binary_at, element_at}
use Rattle.evaluate.proofs.ReadyParts.{expr_within, no_expr, first_small, left_ready, right_ready, index_ready}
use Rattle.evaluate.proofs.Expressions.{number_says, variable_says, binary_says, element_says}
use Rattle.evaluate.proofs.expression.+eval_from.Goals as goal
use Rattle.evaluate.proofs.expression.+eval_from.Goals.{then-left-eq0-via-then-left-eq0, then-left-eq0-via-else-left-eq0+then-pos-code}

pub returns-then-left-eq0 : goal.returns-then-left-eq0
returns-then-left-eq0 t c e ready =
    absurd (elim c.then-left-eq0.branch [
      | then-left-eq0-via-then-left-eq0 w ↦ no_expr _ _ _ e ready (inl w.if-left-eq0.true)
      | then-left-eq0-via-else-left-eq0+then-pos-code w ↦ no_expr _ _ _ e ready (inr w.if-pos-code.true)
    ])

pub returns-in-0 : goal.returns-in-0
returns-in-0 t c e ready =
    let h = number_at _ _ e ready.stands c.in-0.is in
    let l = expr_within _ _ _ e ready in
    record {
      result = number_says _ _ _ _ _ e ready h c.word_at.result _ (c.word_at.ensures (omega (arith, l, h.long))) c.number.ensures;
      end = omega (arith, l, h.long, c.saturating_add.ensures);
    }

pub returns-in-1 : goal.returns-in-1
returns-in-1 t c e ready =
    let h = variable_at _ _ e ready.stands c.in-1.is in
    record {
      result = variable_says _ _ _ _ e h c.byte_at.result c.variable.result c.value.result c.byte_at.ensures c.variable.ensures
          c.value.ensures.interval (rw c.value.ensures.faults c.none.ensures);
      end = omega (arith, expr_within _ _ _ e ready, h.long, c.saturating_add-next.ensures);
    }

pub returns-in-2 : goal.returns-in-2
returns-in-2 t c e ready =
    let h = binary_at _ _ e ready.stands c.in-2.is in
    let next : c.saturating_add-next.result ≡ c.args.pos + 2 = omega (arith, expr_within _ _ _ e ready, h.long, c.saturating_add-next.ensures) in
    let a = c.eval_from-a.ensures h.a (left_ready _ _ _ e ready h _ next) in
    let mid : c.eval_from-a.result.end ≡ c.args.pos + 2 + length (encode_expr h.a) = omega (arith, a.end, next) in
    let b = c.eval_from-b.ensures h.b (right_ready _ _ _ e ready h _ mid) in
    let o = c.combine.ensures.operator in
    record {
      result = binary_says _ _ _ _ e h c.byte_at-in-2.result c.from.result _ c.byte_at-in-2.ensures c.from.ensures ((rw o.1 at o.2) _ _ a.result b.result);
      end = omega (arith, h.long, mid, b.end);
    }

pub returns-in-3 : goal.returns-in-3
returns-in-3 t c e ready =
    let h = element_at _ _ e ready.stands c.in-3.is in
    let next : c.saturating_add-next.result ≡ c.args.pos + 2 = omega (arith, expr_within _ _ _ e ready, h.long, c.saturating_add-next.ensures) in
    let a = c.eval_from-a-in-3.ensures h.a (index_ready _ _ _ e ready h _ next) in
    record {
      result = element_says _ _ _ _ e h c.byte_at-r.result c.length_at.result _ _
          c.byte_at-r.ensures c.length_at.ensures c.array.ensures (c.element.ensures _ a.result);
      end = omega (arith, h.long, next, a.end);
    }

pub returns-in_default : goal.returns-in_default
returns-in_default t c e ready = absurd (omega (arith, first_small _ _ _ e ready))
