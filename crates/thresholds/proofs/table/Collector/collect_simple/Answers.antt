use Rattle.std.proofs.Common.{ℕ, [], ◌∷◌, refl, ap, ◌∙◌, subst, arith}
use Rattle.std.specs.List.{AllByRecursion as All}
use Rattle.program.specs.Syntax.{Stmt}
use Rattle.analysis.specs.Thresholds.{stmt_thresholds}
use Rattle.encoding.proofs.Lengths.{stmt_long}
use Rattle.encoding.proofs.Parts.{skip_at, assign_at, store_at, input_at, check_at}
use Rattle.thresholds.specs.Collecting.{Low}
use Rattle.thresholds.proofs.FirstBytes.{number_read}
use Rattle.thresholds.proofs.Walking.{inside, leaf, no_part, one_part, two_parts}
use Rattle.thresholds.proofs.table.Collector.collect_simple.Goals as goal

pub returns-in-0-clause-walks : goal.returns-in-0-clause-walks
unfolding stmt_thresholds
returns-in-0-clause-walks c d k ready =
    let h = skip_at _ _ d ready.stands (omega (arith, c.requires)) in
    no_part 1 ready refl h.long (ap stmt_thresholds h.is)

pub returns-in-1-clause-walks : goal.returns-in-1-clause-walks
unfolding stmt_thresholds
returns-in-1-clause-walks c d k ready =
    let h = assign_at _ _ d ready.stands (omega (arith, c.requires)) in
    one_part 10 ready refl (omega arith) h.long (ap stmt_thresholds h.is) h.value (c.collect_expr.ensures.walks h.e)

pub returns-in-2-clause-walks : goal.returns-in-2-clause-walks
unfolding stmt_thresholds
returns-in-2-clause-walks c d k ready =
    let h = store_at _ _ d ready.stands (omega (arith, c.requires)) in
    two_parts 10 ready refl (omega arith) h.long (ap stmt_thresholds h.is) h.index h.value
    c.collect_expr-mid.ensures.same (c.collect_expr-mid.ensures.walks h.a) (c.collect_expr-in-2.ensures.walks h.e)

pub returns-in-3-clause-walks : goal.returns-in-3-clause-walks
unfolding stmt_thresholds
returns-in-3-clause-walks c d k ready =
    let h = input_at _ _ d ready.stands (omega (arith, c.requires)) in
    let i = inside ready (stmt_long d) in
    let low = subst (λ (x : Stmt). All Low (stmt_thresholds x)) h.is ready.room.low in
    let a = number_read _ _ _ _ _ h.low low.0 refl (omega (arith, i, h.long)) c.word_at-low.ensures in
    let b = number_read _ _ _ _ _ h.high low.1.0 refl (omega (arith, i, h.long)) c.word_at-high.ensures in
    leaf 26 ready refl h.long (ap stmt_thresholds h.is ∙ ap (λ (m : ℕ). m ∷ h.b ∷ []) a ∙ ap (λ (m : ℕ). c.word_at-low.result ∷ m ∷ []) b) c.push_two.ensures.writes

pub returns-in-4-clause-walks : goal.returns-in-4-clause-walks
unfolding stmt_thresholds
returns-in-4-clause-walks c d k ready =
    let h = check_at _ _ d ready.stands (omega (arith, c.requires)) in
    one_part 9 ready refl (omega arith) h.long (ap stmt_thresholds h.is) h.condition (c.collect_test.ensures.walks h.t)
