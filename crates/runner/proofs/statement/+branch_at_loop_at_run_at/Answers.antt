use Rattle.std.proofs.Common.{◌≡◌, ◌+◌, ◌-◌, length, sym, ◌∙◌, arith}
use Rattle.std.proofs.lemmas.Result.{err_from_is_err_and}
use Rattle.program.specs.Encoding.{encode_test, encode_stmt}
use Rattle.encoding.proofs.Lengths.{stmt_long}
use Rattle.encoding.proofs.Parts.{stmt_within, stmt_below, skip_at, assign_at, store_at, input_at, check_at, seq_at, branch_at, loop_at}
use Rattle.runner.proofs.Words.{word_is}
use Rattle.runner.proofs.StmtParts.{stmt_moved, assign_is, assign_number, assign_ready, store_is, store_number, store_ready, input_is, input_bounds, check_is, check_number, check_ready, seq_ready, branch_is, branch_number, branch_test_ready, branch_ready, loop_is, loop_number, loop_ready}
use Rattle.runner.proofs.Statements.{stopped_as, verdict_at, not_true, not_false, runs_as, run_same, skip_runs, branch_stops, branch_yes, branch_no, seq_stops, seq_goes, loop_runs, loop_stops, loop_ends, loop_breaks, loop_again, loop_out, rounds_as}
use Rattle.runner.proofs.statement.+branch_at_loop_at_run_at.Goals as goal

-- a branch

pub branch_at-returns-in_err-test : goal.branch_at-returns-in_err-test
branch_at-returns-in_err-test t c x a b ready first other =
    let p = err_from_is_err_and c.from_residual.result c.from_residual.ensures.1 in
    rw (p.1, p.2) (branch_stops _ _ _ x a b _ (verdict_at c.args.task.now c.args.state.now c.args.number _ _ c.test_at.result _ c.test_at.ensures c.in_err-test.ensures c.args.task.now.inputs.now x ready))

pub branch_at-returns-in_err-second : goal.branch_at-returns-in_err-second
branch_at-returns-in_err-second t c x a b ready first other =
    let v = verdict_at c.args.task.now c.args.state.now c.args.number _ _ c.test_at.result _ c.test_at.ensures c.in_ok-test.ensures c.args.task.now.inputs.now x ready in
    let p = err_from_is_err_and c.from_residual-in_err-second.result c.from_residual-in_err-second.ensures.1 in
    rw (p.1, p.2) (stopped_as _ _ _ (branch_yes _ _ _ x a b _ v.is c.if-test.true) (c.in_err-second.ensures a (stmt_moved _ _ _ a first _ v.end)))

pub branch_at-returns-then-test : goal.branch_at-returns-then-test
branch_at-returns-then-test t c x a b ready first other =
    let v = verdict_at c.args.task.now c.args.state.now c.args.number _ _ c.test_at.result _ c.test_at.ensures c.in_ok-test.ensures c.args.task.now.inputs.now x ready in
    let f = c.in_ok-second.ensures a (stmt_moved _ _ _ a first _ v.end) in
    let mid : c.in_ok-second.second ≡ c.args.pos + length (encode_test x) + length (encode_stmt a) = omega (arith, f.end, v.end) in
    let last = c.skip_stmt.ensures b (stmt_moved _ _ _ b other _ mid).placed in
    record { is = branch_yes _ _ _ x a b _ v.is c.if-test.true ∙ f.is; end = omega (arith, last, mid) }

pub branch_at-returns : goal.branch_at-returns
branch_at-returns t c x a b ready first other =
    let v = verdict_at c.args.task.now c.args.state.now c.args.number _ _ c.test_at.result _ c.test_at.ensures c.in_ok-test.ensures c.args.task.now.inputs.now x ready in
    let f = c.skip_stmt-second.ensures a (stmt_moved _ _ _ a first _ v.end).placed in
    let mid : c.skip_stmt-second.result ≡ c.args.pos + length (encode_test x) + length (encode_stmt a) = omega (arith, f, v.end) in
    runs_as _ _ _ _ _ _ (omega (arith, mid)) (branch_no _ _ _ x a b _ v.is c.if-test.false) (c.run_at-2.ensures b (stmt_moved _ _ _ b other _ mid))

-- a loop

pub loop_at-loop-init : goal.loop_at-loop-init
loop_at-loop-init t c x a ready body =
    rounds_as _ x _ _ _ _ (omega arith)

pub loop_at-returns-in_err-test : goal.loop_at-returns-in_err-test
loop_at-returns-in_err-test t c x a ready body =
    let p = err_from_is_err_and c.from_residual.result c.from_residual.ensures.1 in
    rw (p.1, p.2) (stopped_as _ _ _ (loop_runs _ _ _ x a ∙ sym (c.loop.invariant x a ready body))
    (loop_stops _ x _ _ (c.args.task.now.rounds - c.loop.counter) _ (omega arith) (verdict_at c.args.task.now c.loop.state c.args.number _ _ c.test_at.result _ c.test_at.ensures c.in_err-test.ensures c.args.task.now.inputs.now x ready)))

pub loop_at-returns-then-not-test : goal.loop_at-returns-then-not-test
loop_at-returns-then-not-test t c x a ready body =
    let v = verdict_at c.args.task.now c.loop.state c.args.number _ _ c.test_at.result _ c.test_at.ensures c.in_ok-test.ensures c.args.task.now.inputs.now x ready in
    let last = c.skip_stmt.ensures a (stmt_moved _ _ _ a body _ v.end).placed in
    record {
      is = loop_runs _ _ _ x a ∙ sym (c.loop.invariant x a ready body) ∙ loop_ends _ x _ _ (c.args.task.now.rounds - c.loop.counter) _ (omega arith) v.is (not_true _ c.if-not-test.true);
      end = omega (arith, last, v.end);
    }

pub loop_at-returns-in_err-run_at : goal.loop_at-returns-in_err-run_at
loop_at-returns-in_err-run_at t c x a ready body =
    let v = verdict_at c.args.task.now c.loop.state c.args.number _ _ c.test_at.result _ c.test_at.ensures c.in_ok-test.ensures c.args.task.now.inputs.now x ready in
    let p = err_from_is_err_and c.from_residual-in_err-run_at.result c.from_residual-in_err-run_at.ensures.1 in
    rw (p.1, p.2) (stopped_as _ _ _ (loop_runs _ _ _ x a ∙ sym (c.loop.invariant x a ready body))
    (loop_breaks _ x _ _ (c.args.task.now.rounds - c.loop.counter) _ _ (omega arith) v.is (not_false _ c.if-not-test.false) (c.in_err-run_at.ensures a (stmt_moved _ _ _ a body _ v.end))))

pub loop_at-loop-preserved : goal.loop_at-loop-preserved
loop_at-loop-preserved t c x a ready body =
    let v = verdict_at c.args.task.now c.loop.state c.args.number _ _ c.test_at.result _ c.test_at.ensures c.in_ok-test.ensures c.args.task.now.inputs.now x ready in
    let f = c.in_ok-run_at.ensures a (stmt_moved _ _ _ a body _ v.end) in
    loop_again _ x _ _ (c.args.task.now.rounds - c.loop.counter) (c.args.task.now.rounds - (c.loop.counter + 1)) _ _ (omega arith) v.is (not_false _ c.if-not-test.false) f.is ∙ c.loop.invariant x a ready body

pub loop_at-returns : goal.loop_at-returns
loop_at-returns t c x a ready body =
    loop_runs _ _ _ x a ∙ sym (c.loop.invariant x a ready body) ∙ loop_out _ x _ _ (c.args.task.now.rounds - c.loop.counter) (omega arith)

-- every statement, by its first byte

pub run_at-returns-then-left-eq0 : goal.run_at-returns-then-left-eq0
run_at-returns-then-left-eq0 t c d ready = absurd (omega (arith, stmt_long d, ready.placed.enough))

pub run_at-returns-in_default : goal.run_at-returns-in_default
run_at-returns-in_default t c d ready = absurd (omega (arith, stmt_below _ _ d ready.placed.stands, c.byte_at.ensures))

pub run_at-returns-in-0 : goal.run_at-returns-in-0
run_at-returns-in-0 t c d ready =
    let h = skip_at _ _ d ready.placed.stands (sym c.byte_at.ensures ∙ c.in-0.is) in
    record { is = skip_runs _ _ d h.is; end = omega (arith, stmt_within _ _ d ready.placed.stands, h.long, c.saturating_add-in-0.ensures) }

pub run_at-returns-in-1 : goal.run_at-returns-in-1
run_at-returns-in-1 t c d ready =
    let h = assign_at _ _ d ready.placed.stands (sym c.byte_at.ensures ∙ c.in-1.is) in
    let l = stmt_within _ _ d ready.placed.stands in
    let at : c.saturating_add.result ≡ c.args.pos + 1 = omega (arith, l, h.long, c.saturating_add.ensures) in
    let next : c.saturating_add-next.result ≡ c.args.pos + 9 = omega (arith, l, h.long, c.saturating_add-next.ensures) in
    let k = word_is _ _ h.p h.number (assign_number _ _ _ d ready h) _ _ at c.word_at-number.ensures in
    rw c.at_stmt.ensures (runs_as _ _ _ _ _ _ (omega (arith, h.long, next)) (run_same _ _ d _ (assign_is _ _ _ d ready h _ _ k next))
    (c.assign_at.ensures c.word_at-number.result h.e (assign_ready _ _ _ d ready h (c.saturating_add-next.result + 1) (omega (arith, next)))))

pub run_at-returns-in-2 : goal.run_at-returns-in-2
run_at-returns-in-2 t c d ready =
    let h = store_at _ _ d ready.placed.stands (sym c.byte_at.ensures ∙ c.in-2.is) in
    let l = stmt_within _ _ d ready.placed.stands in
    let at : c.saturating_add.result ≡ c.args.pos + 1 = omega (arith, l, h.long, c.saturating_add.ensures) in
    let next : c.saturating_add-next.result ≡ c.args.pos + 9 = omega (arith, l, h.long, c.saturating_add-next.ensures) in
    let k = word_is _ _ h.p h.number (store_number _ _ _ d ready h) _ _ at c.word_at-number.ensures in
    let two = store_ready _ _ _ d ready h (c.saturating_add-next.result + 1) (omega (arith, next)) in
    rw c.at_stmt-in-2.ensures (runs_as _ _ _ _ _ _ (omega (arith, h.long, next)) (run_same _ _ d _ (store_is _ _ _ d ready h _ _ k next))
    (c.store_at.ensures c.word_at-number.result h.a h.e two.0 two.1))

pub run_at-returns-in-3 : goal.run_at-returns-in-3
run_at-returns-in-3 t c d ready =
    let h = input_at _ _ d ready.placed.stands (sym c.byte_at.ensures ∙ c.in-3.is) in
    let l = stmt_within _ _ d ready.placed.stands in
    let next : c.saturating_add-next.result ≡ c.args.pos + 9 = omega (arith, l, h.long, c.saturating_add-next.ensures) in
    let f = c.input_at.ensures h.p h.a h.b (input_bounds _ _ _ d ready h (c.saturating_add-next.result + 1) (omega (arith, next))) in
    record { is = run_same _ _ d _ (input_is _ _ _ d ready h _ next) ∙ f.is; end = omega (arith, f.end, h.long, next) }

pub run_at-returns-in-4 : goal.run_at-returns-in-4
run_at-returns-in-4 t c d ready =
    let h = check_at _ _ d ready.placed.stands (sym c.byte_at.ensures ∙ c.in-4.is) in
    let l = stmt_within _ _ d ready.placed.stands in
    let at : c.saturating_add.result ≡ c.args.pos + 1 = omega (arith, l, h.long, c.saturating_add.ensures) in
    let next : c.saturating_add-next.result ≡ c.args.pos + 9 = omega (arith, l, h.long, c.saturating_add-next.ensures) in
    let k = word_is _ _ h.p h.number (check_number _ _ _ d ready h) _ _ at c.word_at-number.ensures in
    rw c.at_stmt-in-4.ensures (runs_as _ _ _ _ _ _ (omega (arith, h.long, next)) (run_same _ _ d _ (check_is _ _ _ d ready h _ k))
    (c.check_at.ensures c.word_at-number.result h.t (check_ready _ _ _ d ready h _ next)))

pub run_at-returns-in_err-second-in-5 : goal.run_at-returns-in_err-second-in-5
run_at-returns-in_err-second-in-5 t c d ready =
    let h = seq_at _ _ d ready.placed.stands (sym c.byte_at.ensures ∙ c.in-5.is) in
    let next : c.saturating_add-in-5.result ≡ c.args.pos + 1 = omega (arith, stmt_within _ _ d ready.placed.stands, h.long, c.saturating_add-in-5.ensures) in
    let two = seq_ready _ _ _ d ready h _ next in
    let p = err_from_is_err_and c.from_residual.result c.from_residual.ensures.1 in
    rw (p.1, p.2) (stopped_as _ _ _ (run_same _ _ d _ h.is) (seq_stops _ _ h.a h.b _ (c.in_err-second-in-5.ensures h.a two.0)))

pub run_at-returns-in_ok-second-in-5 : goal.run_at-returns-in_ok-second-in-5
run_at-returns-in_ok-second-in-5 t c d ready =
    let h = seq_at _ _ d ready.placed.stands (sym c.byte_at.ensures ∙ c.in-5.is) in
    let next : c.saturating_add-in-5.result ≡ c.args.pos + 1 = omega (arith, stmt_within _ _ d ready.placed.stands, h.long, c.saturating_add-in-5.ensures) in
    let two = seq_ready _ _ _ d ready h _ next in
    let f = c.in_ok-second-in-5.ensures h.a two.0 in
    runs_as _ _ _ _ _ _ (omega (arith, h.long, next, f.end)) (run_same _ _ d _ h.is ∙ seq_goes _ _ h.a h.b _ f.is)
    (c.run_at-in-5.ensures h.b (stmt_moved _ _ _ h.b two.1 _ f.end))

pub run_at-returns-in-6 : goal.run_at-returns-in-6
run_at-returns-in-6 t c d ready =
    let h = branch_at _ _ d ready.placed.stands (sym c.byte_at.ensures ∙ c.in-6.is) in
    let l = stmt_within _ _ d ready.placed.stands in
    let at : c.saturating_add.result ≡ c.args.pos + 1 = omega (arith, l, h.long, c.saturating_add.ensures) in
    let next : c.saturating_add-next.result ≡ c.args.pos + 9 = omega (arith, l, h.long, c.saturating_add-next.ensures) in
    let k = word_is _ _ h.p h.number (branch_number _ _ _ d ready h) _ _ at c.word_at-number.ensures in
    let two = branch_ready _ _ _ d ready h _ next in
    runs_as _ _ _ _ _ _ (omega (arith, h.long, next)) (run_same _ _ d _ (branch_is _ _ _ d ready h _ k))
    (c.branch_at.ensures h.t h.a h.b (branch_test_ready _ _ _ d ready h _ next) two.0 two.1)

pub run_at-returns-in-7 : goal.run_at-returns-in-7
run_at-returns-in-7 t c d ready =
    let h = loop_at _ _ d ready.placed.stands (sym c.byte_at.ensures ∙ c.in-7.is) in
    let l = stmt_within _ _ d ready.placed.stands in
    let at : c.saturating_add.result ≡ c.args.pos + 1 = omega (arith, l, h.long, c.saturating_add.ensures) in
    let next : c.saturating_add-next.result ≡ c.args.pos + 9 = omega (arith, l, h.long, c.saturating_add-next.ensures) in
    let k = word_is _ _ h.p h.number (loop_number _ _ _ d ready h) _ _ at c.word_at-number.ensures in
    let two = loop_ready _ _ _ d ready h _ next in
    runs_as _ _ _ _ _ _ (omega (arith, h.long, next)) (run_same _ _ d _ (loop_is _ _ _ d ready h _ k))
    (c.loop_at.ensures h.t h.a two.0 two.1)
