use Rattle.std.proofs.Common.{ℕ, suc, ◌-◌, [], ◌∷◌, refl, ap, ◌∙◌, subst, arith}
use Rattle.std.specs.List.{AllByRecursion as All}
use Rattle.program.specs.Syntax.{Expr}
use Rattle.analysis.specs.Thresholds.{expr_thresholds}
use Rattle.encoding.proofs.Lengths.{expr_long}
use Rattle.encoding.proofs.Parts.{number_at, variable_at, binary_at, element_at, expr_first}
use Rattle.thresholds.specs.Collecting.{Low}
use Rattle.thresholds.proofs.FirstBytes.{expr_tag_below, number_read}
use Rattle.thresholds.proofs.Walking.{inside, nowhere, leaf, no_part, one_part, two_parts}
use Rattle.thresholds.proofs.table.Collector.+collect_expr.Goals as goal

pub returns-in_default-clause-walks : goal.returns-in_default-clause-walks
returns-in_default-clause-walks t c e ready = nowhere ready (omega (arith, expr_long e)) c.in_default.ensures

pub returns-in-0-clause-walks : goal.returns-in-0-clause-walks
unfolding expr_thresholds
returns-in-0-clause-walks t c e ready =
    let h = number_at _ _ e ready.stands (omega (arith, c.in-Some.ensures)) in
    let i = inside ready (omega (arith, h.long)) in
    let low = subst (λ (x : Expr). All Low (expr_thresholds x)) h.is ready.room.low in
    let n = number_read _ _ _ _ _ h.word low.1.0 refl (omega (arith, i, h.long)) c.word_at-n.ensures in
    leaf 9 ready refl h.long (ap expr_thresholds h.is ∙ ap (λ (m : ℕ). (m - 1) ∷ m ∷ suc m ∷ []) n) c.push_around.ensures.writes

pub returns-in-1-clause-walks : goal.returns-in-1-clause-walks
unfolding expr_thresholds
returns-in-1-clause-walks t c e ready =
    let h = variable_at _ _ e ready.stands (omega (arith, c.in-Some.ensures)) in
    no_part 2 ready refl h.long (ap expr_thresholds h.is)

pub returns-in-2-clause-walks : goal.returns-in-2-clause-walks
unfolding expr_thresholds
returns-in-2-clause-walks t c e ready =
    let h = binary_at _ _ e ready.stands (omega (arith, c.in-Some.ensures)) in
    two_parts 2 ready refl (omega arith) h.long (ap expr_thresholds h.is) h.left h.right
    c.collect_expr-mid.ensures.same (c.collect_expr-mid.ensures.walks h.a) (c.collect_expr.ensures.walks h.b)

pub returns-in-3-clause-walks : goal.returns-in-3-clause-walks
unfolding expr_thresholds
returns-in-3-clause-walks t c e ready =
    let h = element_at _ _ e ready.stands (omega (arith, c.in-Some.ensures)) in
    one_part 2 ready refl (omega arith) h.long (ap expr_thresholds h.is) h.index (c.collect_expr-in-3.ensures.walks h.a)

pub returns-in_default-tag-clause-walks : goal.returns-in_default-tag-clause-walks
returns-in_default-tag-clause-walks t c e ready =
    let k = expr_first _ _ e ready.stands in let l = expr_tag_below e in absurd (omega (arith, k, l, c.in-Some.ensures))
