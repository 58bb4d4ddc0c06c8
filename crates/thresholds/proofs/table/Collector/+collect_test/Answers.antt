use Rattle.std.proofs.Common.{refl, ap, arith}
use Rattle.analysis.specs.Thresholds.{test_thresholds}
use Rattle.encoding.proofs.Lengths.{test_long}
use Rattle.encoding.proofs.Parts.{not_at, test_first}
use Rattle.thresholds.proofs.FirstBytes.{compares_at, connects_at, test_tag_below}
use Rattle.thresholds.proofs.Walking.{nowhere, one_part, two_parts}
use Rattle.thresholds.proofs.table.Collector.+collect_test.Goals as goal

pub returns-in_default-clause-walks : goal.returns-in_default-clause-walks
returns-in_default-clause-walks t c x ready = nowhere ready (omega (arith, test_long x)) c.in_default.ensures

pub returns-in-0-clause-walks : goal.returns-in-0-clause-walks
returns-in-0-clause-walks t c x ready =
    let h = compares_at _ _ x ready.stands (omega (arith, c.in-Some.ensures)) in
    two_parts 1 ready refl (omega arith) h.long h.is h.left h.right
    c.collect_expr-mid.ensures.same (c.collect_expr-mid.ensures.walks h.a) (c.collect_expr.ensures.walks h.b)

pub returns-in-2-clause-walks : goal.returns-in-2-clause-walks
unfolding test_thresholds
returns-in-2-clause-walks t c x ready =
    let h = not_at _ _ x ready.stands (omega (arith, c.in-Some.ensures)) in
    one_part 1 ready refl (omega arith) h.long (ap test_thresholds h.is) h.inner (c.collect_test.ensures.walks h.t)

pub returns-in-3-clause-walks : goal.returns-in-3-clause-walks
returns-in-3-clause-walks t c x ready =
    let h = connects_at _ _ x ready.stands (omega (arith, c.in-Some.ensures)) (omega (arith, c.in-Some.ensures)) in
    two_parts 1 ready refl (omega arith) h.long h.is h.first h.second
    c.collect_test-mid.ensures.same (c.collect_test-mid.ensures.walks h.t) (c.collect_test-in-3.ensures.walks h.u)

pub returns-in_default-tag-clause-walks : goal.returns-in_default-tag-clause-walks
returns-in_default-tag-clause-walks t c x ready =
    let k = test_first _ _ x ready.stands in let l = test_tag_below x in absurd (omega (arith, k, l, c.in-Some.ensures))
