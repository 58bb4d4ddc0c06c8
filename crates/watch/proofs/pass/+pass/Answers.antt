-- Each arm is a watched pass through its parts, by what stands at the position.
use Rattle.std.proofs.Common.{ℕ, sym, refl, ap, ◌∙◌, arith}
use Rattle.program.specs.Syntax.{branch, loop}
use Rattle.encoding.proofs.Lengths.{stmt_long}
use Rattle.encoding.proofs.Parts.{skip_at, seq_at, branch_at, loop_at, stmt_within, stmt_below}
use Rattle.evaluate.proofs.Tests.{join_swap}
use Rattle.walker.proofs.Parts.{ready_at, seq_first, seq_second, branch_condition, branch_first, branch_second, loop_condition, loop_body, branch_number, loop_number}
use Rattle.walker.proofs.Statements.{number_is}
use Rattle.watch.proofs.Watching.{watched_skip, watched_seq, watched_branch, watched_loop, watched_at, watched_as}
use Rattle.watch.proofs.pass.+pass.Goals as goal
use Rattle.watch.proofs.pass.+pass.Goals.{pass_at-then-left-eq0-via-then-left-eq0, pass_at-then-left-eq0-via-else-left-eq0+then-pos-watch}

pub branch_at-returns : goal.branch_at-returns
branch_at-returns t c x a b rising test first second =
    let ways = (rw (c.code.ensures.text, c.code.ensures.lengths) at c.test_at-ways.ensures) x test in
    let mid = c.pass_at-mid.ensures a rising (ready_at _ _ _ _ a (sym ways.end) first) in
    let end = c.pass_at-end.ensures b rising (ready_at _ _ _ _ b (omega (arith, mid.end, ways.end)) second) in
    watched_branch _ _ _ _ _ _ _ x a b _ _ _ _ _ _ _ _ _ _ c.note.ensures
    (watched_at _ _ _ _ _ _ _ _ _ _ _ a _ refl ways.yes mid) (watched_at _ _ _ _ _ _ _ _ _ _ _ b _ (omega (arith, mid.end, ways.end)) ways.no end) (c.join.ensures ∙ join_swap _ _)

pub loop_at-returns : goal.loop_at-returns
loop_at-returns t c x a rising test body =
    let settled = c.settle_at-settled.ensures x a rising test body in
    let ways = (rw (c.code.ensures.text, c.code.ensures.lengths) at c.test_at-ways.ensures) x test in
    let end = c.pass_at-end.ensures a rising (ready_at _ _ _ _ a (sym ways.end) body) in
    watched_loop _ _ _ _ _ _ x a _ _ _ _ _ _ _ _ settled.settles c.note.ensures (watched_at _ _ _ _ _ _ _ _ _ _ _ a _ (omega (arith, ways.end)) ways.yes end) ways.no

pub pass_at-returns-then-left-eq0 : goal.pass_at-returns-then-left-eq0
pass_at-returns-then-left-eq0 t c d rising h =
    let long = stmt_long d in
    let within = stmt_within _ _ d h.stands in
    absurd (elim c.then-left-eq0.branch [
      | pass_at-then-left-eq0-via-then-left-eq0 w ↦ omega (arith, h.enough, w.if-left-eq0.true)
      | pass_at-then-left-eq0-via-else-left-eq0+then-pos-watch w ↦ omega (arith, w.if-pos-watch.true)
    ])

pub pass_at-returns-in-0 : goal.pass_at-returns-in-0
pass_at-returns-in-0 t c d rising h =
    let s = skip_at _ _ d h.stands c.in-0.is in
    watched_as _ _ _ _ _ _ _ _ _ d _ _ s.is (watched_skip _ _ _ _ _ _ _ _ (omega (arith, s.long)))

pub pass_at-returns-in-5 : goal.pass_at-returns-in-5
pass_at-returns-in-5 t c d rising h =
    let s = seq_at _ _ d h.stands c.in-5.is in
    let mid = c.pass_at-mid.ensures s.a rising (seq_first _ _ _ d h s) in
    let end = c.pass_at.ensures s.b rising (ready_at _ _ _ _ s.b (sym mid.end) (seq_second _ _ _ d h s)) in
    watched_as _ _ _ _ _ _ _ _ _ d _ _ s.is (watched_seq _ _ _ _ _ _ s.a s.b _ _ _ _ _ _ _ _ mid (watched_at _ _ _ _ _ _ _ _ _ _ _ s.b _ (omega (arith, mid.end, s.long)) refl end))

pub numbered_at-returns-in-6 : goal.numbered_at-returns-in-6
numbered_at-returns-in-6 t c has d rising h =
    let s = branch_at _ _ d h.stands c.in-6.is in
    let p-is = number_is _ _ s.p _ s.number (branch_number _ _ _ d h s) c.word_at.ensures in
    let w = c.branch_at.ensures s.t s.a s.b rising (branch_condition _ _ _ d h s) (branch_first _ _ _ d h s) (branch_second _ _ _ d h s) in
    watched_as _ _ _ _ _ _ _ _ _ d _ _ (s.is ∙ ap (λ (p : ℕ). branch p s.t s.a s.b) (sym p-is)) (watched_at _ _ _ _ _ _ _ _ _ _ _ _ _ (omega (arith, s.long)) refl w)

pub numbered_at-returns-in-7 : goal.numbered_at-returns-in-7
numbered_at-returns-in-7 t c has d rising h =
    let s = loop_at _ _ d h.stands c.in-7.is in
    let p-is = number_is _ _ s.p _ s.number (loop_number _ _ _ d h s) c.word_at-in-7.ensures in
    let w = c.loop_at.ensures s.t s.a rising (loop_condition _ _ _ d h s) (loop_body _ _ _ d h s) in
    watched_as _ _ _ _ _ _ _ _ _ d _ _ (s.is ∙ ap (λ (p : ℕ). loop p s.t s.a) (sym p-is)) (watched_at _ _ _ _ _ _ _ _ _ _ _ _ _ (omega (arith, s.long)) refl w)

pub numbered_at-returns-in_default : goal.numbered_at-returns-in_default
numbered_at-returns-in_default t c has d rising h = c.simple_at.ensures (omega (arith, stmt_below _ _ d h.stands)) d rising h
