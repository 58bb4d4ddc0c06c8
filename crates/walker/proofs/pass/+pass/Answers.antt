use borrow.Author.Tests.{tests}
use Rattle.std.proofs.Common.{◌≡◌, ℕ, suc, length, rules, ◌+◌, ◌-◌, sym, refl, ap, ◌∙◌, arith}
use Rattle.program.specs.Syntax.{branch, loop}
use Rattle.encoding.proofs.Lengths.{stmt_long}
use Rattle.encoding.proofs.Parts.{skip_at, seq_at, branch_at, loop_at, stmt_within, stmt_below}
use Rattle.analysis.proofs.Clauses.{iterate_none, iterate_done, iterate_on}
use Rattle.analysis.specs.AbstractState.{Abstract, join}
use Rattle.state.specs.Of.{as_abstract}
use Rattle.evaluate.proofs.Tests.{join_swap}
use Rattle.walker.proofs.Parts.{ready_at, seq_first, seq_second, branch_condition, branch_first, branch_second, loop_condition, loop_body, branch_number, loop_number}
use Rattle.walker.proofs.Statements.{number_is}
use Rattle.walker.proofs.Walking.{walked_at, walked_as, walked_skip, walked_seq, walked_branch, walked_loop, walked_quiet}
use Rattle.walker.proofs.pass.+pass.Goals as goal
use Rattle.walker.proofs.pass.+pass.Goals.{walk_at-then-left-eq0-via-then-left-eq0, walk_at-then-left-eq0-via-else-left-eq0+then-pos-task}

pub branch_at-returns : goal.branch_at-returns
branch_at-returns t c x a b rising test first second =
    let ways = (rw (c.code.ensures.text, c.code.ensures.lengths) at c.test_at-ways.ensures) x test in
    let mid = c.walk_at-mid.ensures a rising (ready_at _ _ _ _ a (sym ways.end) first) in
    let end = c.walk_at-end.ensures b rising (ready_at _ _ _ _ b (omega (arith, mid.end, ways.end)) second) in
    walked_branch _ _ _ _ _ _ x a b _ _ _ _ _ _ _ _ _ _ (c.mark_faults.ensures _ ways.faults)
    (walked_at _ _ _ _ _ _ _ _ _ _ a _ refl ways.yes mid) (walked_at _ _ _ _ _ _ _ _ _ _ b _ (omega (arith, mid.end, ways.end)) ways.no end) (c.join.ensures ∙ join_swap _ _)

pub round_at-returns : goal.round_at-returns
round_at-returns t c x a rising test body =
    let ways = (rw (c.code.ensures.text, c.code.ensures.lengths) at c.test_at-ways.ensures) x test in
    let end = c.walk_at-end.ensures a rising (ready_at _ _ _ _ a (sym ways.end) body) in
    let w = walked_at _ _ _ _ _ _ _ _ _ _ a _ refl ways.yes end in
    record { is = c.join.ensures ∙ join_swap _ _ ∙ ap (λ (h : Abstract). join (as_abstract c.args.first.now) h) w.out; end = omega (arith, end.end, ways.end) }

pub settle_at-returns-then-lies_within : goal.settle_at-returns-then-lies_within
settle_at-returns-then-lies_within t c x a rising test body =
    let next = c.round_at-next.ensures x a rising test body in
    record { settles = sym (iterate_done _ _ _ _ _ _ next.is (sym c.if-lies_within.ensures)) ∙ (c.loop-i.invariant x a rising test body).0; end = λ some. next.end }

pub settle_at-loop-i-preserved : goal.settle_at-loop-i-preserved
settle_at-loop-i-preserved t c x a rising test body =
    let next = c.round_at-next.ensures x a rising test body in
    let left : c.args.task.now.rounds - c.loop-i.i ≡ suc (c.args.task.now.rounds - (c.loop-i.i + 1)) = omega (arith, c.loop-i-test.true) in
    (iterate_on _ c.loop-i.i _ _ _ _ _ _ next.is (sym c.if-lies_within.ensures) (c.next_state.ensures rising) left ∙ (c.loop-i.invariant x a rising test body).0, λ some. next.end)

pub settle_at-returns : goal.settle_at-returns
settle_at-returns t c x a rising test body =
    let inv = c.loop-i.invariant x a rising test body in
    let none : c.args.task.now.rounds - c.loop-i.i ≡ 0 = omega (arith, c.loop-i-test.false) in
    record { settles = sym (iterate_none _ _ _ _ _ none) ∙ inv.0; end = λ some. inv.1 (omega (arith, some, c.loop-i-test.false)) }

pub loop_at-returns-then-task-gt0 : goal.loop_at-returns-then-task-gt0
loop_at-returns-then-task-gt0 t c x a rising test body =
    let settled = c.settle_at-settled.ensures x a rising test body in
    let ways = (rw (c.code.ensures.text, c.code.ensures.lengths) at c.test_at-ways.ensures) x test in
    let none : length c.args.alarms.now ≡ 0 = search (rules, tests) in
    walked_quiet _ _ _ _ _ x a _ _ _ _ _ settled.settles none ways.no (settled.end c.if-task-gt0.true)

pub loop_at-returns : goal.loop_at-returns
loop_at-returns t c x a rising test body =
    let settled = c.settle_at-settled.ensures x a rising test body in
    let ways = (rw (c.code.ensures.text, c.code.ensures.lengths) at c.test_at-ways.ensures) x test in
    let end = c.walk_at-end.ensures a rising (ready_at _ _ _ _ a (sym ways.end) body) in
    walked_loop _ _ _ _ _ x a _ _ _ _ _ _ _ _ settled.settles (c.mark_faults.ensures _ ways.faults) (walked_at _ _ _ _ _ _ _ _ _ _ a _ (omega (arith, ways.end)) ways.yes end) ways.no

pub walk_at-returns-then-left-eq0 : goal.walk_at-returns-then-left-eq0
walk_at-returns-then-left-eq0 t c d rising h =
    let long = stmt_long d in
    let within = stmt_within _ _ d h.stands in
    absurd (elim c.then-left-eq0.branch [
      | walk_at-then-left-eq0-via-then-left-eq0 w ↦ omega (arith, h.enough, w.if-left-eq0.true)
      | walk_at-then-left-eq0-via-else-left-eq0+then-pos-task w ↦ omega (arith, w.if-pos-task.true)
    ])

pub walk_at-returns-in-0 : goal.walk_at-returns-in-0
walk_at-returns-in-0 t c d rising h =
    let s = skip_at _ _ d h.stands c.in-0.is in
    walked_as _ _ _ _ _ _ _ _ d _ _ s.is (walked_skip _ _ _ _ _ _ _ (omega (arith, s.long)))

pub walk_at-returns-in-5 : goal.walk_at-returns-in-5
walk_at-returns-in-5 t c d rising h =
    let s = seq_at _ _ d h.stands c.in-5.is in
    let mid = c.walk_at-mid.ensures s.a rising (seq_first _ _ _ d h s) in
    let end = c.walk_at.ensures s.b rising (ready_at _ _ _ _ s.b (sym mid.end) (seq_second _ _ _ d h s)) in
    walked_as _ _ _ _ _ _ _ _ d _ _ s.is (walked_seq _ _ _ _ _ s.a s.b _ _ _ _ _ _ _ _ mid (walked_at _ _ _ _ _ _ _ _ _ _ s.b _ (omega (arith, mid.end, s.long)) refl end))

pub numbered_at-returns-in-6 : goal.numbered_at-returns-in-6
numbered_at-returns-in-6 t c has d rising h =
    let s = branch_at _ _ d h.stands c.in-6.is in
    let p-is = number_is _ _ s.p _ s.number (branch_number _ _ _ d h s) c.word_at.ensures in
    let w = c.branch_at.ensures s.t s.a s.b rising (branch_condition _ _ _ d h s) (branch_first _ _ _ d h s) (branch_second _ _ _ d h s) in
    walked_as _ _ _ _ _ _ _ _ d _ _ (s.is ∙ ap (λ (p : ℕ). branch p s.t s.a s.b) (sym p-is)) (walked_at _ _ _ _ _ _ _ _ _ _ _ _ (omega (arith, s.long)) refl w)

pub numbered_at-returns-in-7 : goal.numbered_at-returns-in-7
numbered_at-returns-in-7 t c has d rising h =
    let s = loop_at _ _ d h.stands c.in-7.is in
    let p-is = number_is _ _ s.p _ s.number (loop_number _ _ _ d h s) c.word_at-in-7.ensures in
    let w = c.loop_at.ensures s.t s.a rising (loop_condition _ _ _ d h s) (loop_body _ _ _ d h s) in
    walked_as _ _ _ _ _ _ _ _ d _ _ (s.is ∙ ap (λ (p : ℕ). loop p s.t s.a) (sym p-is)) (walked_at _ _ _ _ _ _ _ _ _ _ _ _ (omega (arith, s.long)) refl w)

pub numbered_at-returns-in_default : goal.numbered_at-returns-in_default
numbered_at-returns-in_default t c has d rising h = c.simple_at.ensures _ _ d h (omega (arith, stmt_below _ _ d h.stands))
