-- By whether the two expressions have values.
use Rattle.std.proofs.Common.{refl, arith}
use Rattle.evaluate.proofs.ReadyParts.{ready_move}
use Rattle.evaluate.proofs.Comparisons.{split_no_first, split_no_second, split_values}
use Rattle.evaluate.proofs.comparison.compare_at.Goals as goal

pub returns-in_default : goal.returns-in_default
returns-in_default c a b first second =
    let p = c.eval_here-a.ensures a first in
    let q = c.eval_here-b.ensures b (ready_move _ _ _ _ b p.end second) in
    split_no_first _ _ c.args.how a b c.eval_here-a.result.result _ _ _ c.stop.ensures (omega (arith, p.end, q.end)) c.in_default.is p.result

pub returns-in_default-interval : goal.returns-in_default-interval
returns-in_default-interval c a b first second =
    let p = c.eval_here-a.ensures a first in
    let q = c.eval_here-b.ensures b (ready_move _ _ _ _ b p.end second) in
    split_no_second _ _ c.args.how a b c.in-Some.s c.eval_here-a.result.result c.eval_here-b.result.result _ _ _ _
    c.stop-in_default-interval.ensures (omega (arith, p.end, q.end)) c.or-faults.ensures c.in-Some.is c.in_default-interval.is p.result q.result

pub returns : goal.returns
returns c a b first second =
    let p = c.eval_here-a.ensures a first in
    let later = ready_move _ _ _ _ b p.end second in
    let q = c.eval_here-b.ensures b later in
    split_values _ _ c.args.how a b c.in-Some.s c.in-Some-interval.t c.eval_here-a.result.result c.eval_here-b.result.result _ _ _
    refl refl c.or-faults.ensures (omega (arith, p.end, q.end)) c.in-Some.is c.in-Some-interval.is p.result q.result
    _ _ (c.variable_at.ensures a first.stands) (c.variable_at-2.ensures b later.stands) c.compare.ensures
