use Rattle.std.proofs.Common.{refl, ap, arith}
use Rattle.analysis.specs.Thresholds.{stmt_thresholds}
use Rattle.encoding.proofs.Lengths.{stmt_long}
use Rattle.encoding.proofs.Parts.{seq_at, branch_at, loop_at, stmt_first}
use Rattle.thresholds.proofs.FirstBytes.{stmt_tag_below}
use Rattle.thresholds.proofs.Walking.{nowhere, two_parts, three_parts}
use Rattle.thresholds.proofs.table.Collector.+collect_stmt.Goals as goal

pub returns-in_default-clause-walks : goal.returns-in_default-clause-walks
returns-in_default-clause-walks t c d ready = nowhere ready (stmt_long d) c.in_default.ensures

pub returns-in-5-clause-walks : goal.returns-in-5-clause-walks
unfolding stmt_thresholds
returns-in-5-clause-walks t c d ready =
    let h = seq_at _ _ d ready.stands (omega (arith, c.in-Some.ensures)) in
    two_parts 1 ready refl (omega arith) h.long (ap stmt_thresholds h.is) h.first h.second
    c.collect_stmt-mid.ensures.same (c.collect_stmt-mid.ensures.walks h.a) (c.collect_stmt.ensures.walks h.b)

pub returns-in-6-clause-walks : goal.returns-in-6-clause-walks
unfolding stmt_thresholds
returns-in-6-clause-walks t c d ready =
    let h = branch_at _ _ d ready.stands (omega (arith, c.in-Some.ensures)) in
    three_parts 9 ready refl (omega arith) h.long (ap stmt_thresholds h.is) h.condition h.first h.second
    c.collect_test-first.ensures.same c.collect_stmt-second.ensures.same
    (c.collect_test-first.ensures.walks h.t) (c.collect_stmt-second.ensures.walks h.a) (c.collect_stmt-in-6.ensures.walks h.b)

pub returns-in-7-clause-walks : goal.returns-in-7-clause-walks
unfolding stmt_thresholds
returns-in-7-clause-walks t c d ready =
    let h = loop_at _ _ d ready.stands (omega (arith, c.in-Some.ensures)) in
    two_parts 9 ready refl (omega arith) h.long (ap stmt_thresholds h.is) h.condition h.body
    c.collect_test-body.ensures.same (c.collect_test-body.ensures.walks h.t) (c.collect_stmt-in-7.ensures.walks h.a)

pub returns-in_default-tag-clause-walks : goal.returns-in_default-tag-clause-walks
returns-in_default-tag-clause-walks t c d ready =
    c.collect_simple.ensures.walks d (let k = stmt_first _ _ d ready.stands in let l = stmt_tag_below d in omega (arith, k, l, c.in-Some.ensures)) ready
