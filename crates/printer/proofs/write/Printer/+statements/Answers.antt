use Rattle.std.proofs.Common.{sym, refl, ap, ◌∙◌, arith}
use Rattle.std.proofs.lemmas.Result.{on_ok_weaker}
use Rattle.encoding.proofs.Lengths.{stmt_long}
use Rattle.encoding.proofs.Parts.{stmt_first, stmt_within, stmt_below, skip_at, assign_at, store_at, input_at, check_at, seq_at, branch_at, loop_at}
use Rattle.printer.specs.Text.{text_stmt}
use Rattle.printer.specs.Printing.{Prints, StmtPrinted, BlockPrinted, FirstPrinted, ElsePrinted, AssignPrinted, StorePrinted, InputPrinted, CheckPrinted, BranchPrinted, LoopPrinted}
use Rattle.printer.proofs.Adding.{also, same_steps, head_passed}
use Rattle.printer.proofs.ReadyParts.{ready_next}
use Rattle.printer.proofs.StmtParts.{bounds_next, assign_is, assign_ready, store_is, store_ready, input_is, input_bounds, check_ready, seq_ready, branch_test_ready, branch_ready, loop_ready}
use Rattle.printer.proofs.Statements.{skip_text, plain_text, group_text, seq_text, no_else_text, else_text, branch_text, loop_text}
use Rattle.printer.proofs.write.Printer.+statements.Goals as goal

-- the first of two statements

pub first-returns-then-peek-ne-SEQ : goal.first-returns-then-peek-ne-SEQ
first-returns-then-peek-ne-SEQ t c =
    on_ok_weaker {P = StmtPrinted _ _ _ _} {Q = FirstPrinted _ _ _ _} _ (λ q s ready.
    let tag = stmt_first _ _ s ready.placed.stands in
    same_steps (q s ready) refl (plain_text _ s (λ is. omega (arith, c.peek.ensures, c.if-peek-ne-SEQ.true)))) c.stmt.ensures

pub first-returns : goal.first-returns
first-returns t c =
    on_ok_weaker {P = Prints _ _ _ _} {Q = FirstPrinted _ _ _ _} _ (λ q s ready.
    let tag = stmt_first _ _ s ready.placed.stands in
    let begun = also c.in_ok-indent.ensures c.in_ok-put.ensures in
    let v = c.in_ok-block.ensures s (ready_next begun ready (omega (arith, begun.pos))) in
    same_steps (also (also begun v) q) (omega arith) (group_text _ s (omega (arith, c.peek.ensures, c.if-peek-ne-SEQ.false)))) c.put-2.ensures

-- the second part of a branch

pub otherwise-returns-then-peek-eq-SKIP : goal.otherwise-returns-then-peek-eq-SKIP
otherwise-returns-then-peek-eq-SKIP t c s ready =
    let h = skip_at _ _ s ready.placed.stands (omega (arith, c.peek.ensures, c.if-peek-eq-SKIP.true)) in
    same_steps (c.pass.ensures (omega (arith, stmt_within _ _ s ready.placed.stands, h.long))) (sym h.long) (no_else_text _ s _ h.is)

pub otherwise-returns : goal.otherwise-returns
otherwise-returns t c =
    on_ok_weaker {P = BlockPrinted _ c.args.depth _ _} {Q = ElsePrinted _ c.args.depth _ _} _ (λ q s ready.
    let tag = stmt_first _ _ s ready.placed.stands in
    let begun = c.in_ok-put.ensures in
    same_steps (also begun (q s (ready_next begun ready (omega (arith, begun.pos))))) (omega arith)
    (else_text _ s _ (λ is. omega (arith, c.peek.ensures, c.if-peek-eq-SKIP.false)))) c.block.ensures

-- a branch and a loop

pub branch-returns : goal.branch-returns
branch-returns t c =
    on_ok_weaker {P = Prints _ _ _ _} {Q = BranchPrinted _ _ _ _} _ (λ q p x a b ready first other.
    let begun = also c.in_ok-indent.ensures c.in_ok-put.ensures in
    let tested = also (also begun (c.in_ok-test.ensures x (ready_next begun ready (omega (arith, begun.pos))))) c.in_ok-put-2.ensures in
    let half = also tested (c.in_ok-block.ensures a (ready_next tested first (omega (arith, tested.pos)))) in
    let all = also half (c.in_ok-otherwise.ensures b (ready_next half other (omega (arith, half.pos)))) in
    same_steps (also all q) (omega arith) (branch_text _ p x a b)) c.put-3.ensures

pub repeat-returns : goal.repeat-returns
repeat-returns t c =
    on_ok_weaker {P = Prints _ _ _ _} {Q = LoopPrinted _ _ _ _} _ (λ q p x a ready body.
    let begun = also c.in_ok-indent.ensures c.in_ok-put.ensures in
    let tested = also (also begun (c.in_ok-test.ensures x (ready_next begun ready (omega (arith, begun.pos))))) c.in_ok-put-2.ensures in
    let all = also tested (c.in_ok-block.ensures a (ready_next tested body (omega (arith, tested.pos)))) in
    same_steps (also all q) (omega arith) (loop_text _ p x a)) c.put-3.ensures

-- every statement, by its first byte

pub stmt-returns-then-left-eq0 : goal.stmt-returns-then-left-eq0
stmt-returns-then-left-eq0 t c s ready = absurd (omega (arith, stmt_long s, ready.placed.enough))

pub stmt-returns-in_default : goal.stmt-returns-in_default
stmt-returns-in_default t c s ready = absurd (omega (arith, stmt_below _ _ s ready.placed.stands, c.kind.ensures.value))

pub stmt-returns-in_ok-indent-in-0 : goal.stmt-returns-in_ok-indent-in-0
stmt-returns-in_ok-indent-in-0 t c =
    on_ok_weaker {P = Prints _ _ _ _} {Q = StmtPrinted _ _ _ _} _ (λ q s ready.
    let h = skip_at _ _ s ready.placed.stands (sym c.kind.ensures.value ∙ c.in-0.is) in
    let a : Prints 1 _ _ _ = head_passed c.kind.ensures.passed 0 c.in-0.is (omega (arith, stmt_within _ _ s ready.placed.stands, h.long)) in
    same_steps (also (also a c.in_ok-indent-in-0.ensures) q) (sym h.long) (skip_text _ s h.is)) c.put.ensures

pub stmt-returns-in_ok-put-in-5 : goal.stmt-returns-in_ok-put-in-5
stmt-returns-in_ok-put-in-5 t c =
    on_ok_weaker {P = StmtPrinted _ _ _ _} {Q = StmtPrinted _ _ _ _} _ (λ q s ready.
    let h = seq_at _ _ s ready.placed.stands (sym c.kind.ensures.value ∙ c.in-5.is) in
    let a : Prints 1 _ _ _ = head_passed c.kind.ensures.passed 5 c.in-5.is (omega (arith, stmt_within _ _ s ready.placed.stands, h.long)) in
    let two = seq_ready _ _ _ s ready h _ refl in
    let half = also (also a (c.in_ok-first-in-5.ensures h.a (ready_next a two.0 a.pos))) c.in_ok-put-in-5.ensures in
    same_steps (also half (q h.b (ready_next half two.1 (omega (arith, half.pos))))) (omega (arith, h.long)) (seq_text _ s h.a h.b h.is)) c.stmt.ensures

pub stmt-returns-in-1 : goal.stmt-returns-in-1
stmt-returns-in-1 t c =
    on_ok_weaker {P = AssignPrinted _ _ _ _} {Q = StmtPrinted _ _ _ _} _ (λ q s ready.
    let h = assign_at _ _ s ready.placed.stands (sym c.kind.ensures.value ∙ c.in-1.is) in
    let a : Prints 9 _ _ _ = head_passed c.kind.ensures.passed 1 c.in-1.is (omega (arith, stmt_within _ _ s ready.placed.stands, h.long)) in
    same_steps (also a (q h.p h.e (ready_next a (assign_ready _ _ _ s ready h _ refl) (omega (arith, a.pos))))) (omega (arith, h.long))
    (ap (text_stmt c.args.depth) (sym (assign_is _ _ _ s ready h a refl refl)))) c.assign.ensures

pub stmt-returns-in-2 : goal.stmt-returns-in-2
stmt-returns-in-2 t c =
    on_ok_weaker {P = StorePrinted _ _ _ _} {Q = StmtPrinted _ _ _ _} _ (λ q s ready.
    let h = store_at _ _ s ready.placed.stands (sym c.kind.ensures.value ∙ c.in-2.is) in
    let a : Prints 9 _ _ _ = head_passed c.kind.ensures.passed 2 c.in-2.is (omega (arith, stmt_within _ _ s ready.placed.stands, h.long)) in
    let two = store_ready _ _ _ s ready h _ refl in
    same_steps (also a (q h.p h.a h.e (ready_next a two.0 (omega (arith, a.pos))) (ready_next a two.1 (omega (arith, a.pos))))) (omega (arith, h.long))
    (ap (text_stmt c.args.depth) (sym (store_is _ _ _ s ready h a refl refl)))) c.store.ensures

pub stmt-returns-in-3 : goal.stmt-returns-in-3
stmt-returns-in-3 t c =
    on_ok_weaker {P = InputPrinted _ _ _} {Q = StmtPrinted _ _ _ _} _ (λ q s ready.
    let h = input_at _ _ s ready.placed.stands (sym c.kind.ensures.value ∙ c.in-3.is) in
    let a : Prints 9 _ _ _ = head_passed c.kind.ensures.passed 3 c.in-3.is (omega (arith, stmt_within _ _ s ready.placed.stands, h.long)) in
    same_steps (also a (q h.p h.a h.b (bounds_next a (input_bounds _ _ _ s ready h _ refl) (omega (arith, a.pos))))) (omega (arith, h.long))
    (ap (text_stmt c.args.depth) (sym (input_is _ _ _ s ready h a refl refl)))) c.input.ensures

pub stmt-returns-in-4 : goal.stmt-returns-in-4
stmt-returns-in-4 t c =
    on_ok_weaker {P = CheckPrinted _ _ _ _} {Q = StmtPrinted _ _ _ _} _ (λ q s ready.
    let h = check_at _ _ s ready.placed.stands (sym c.kind.ensures.value ∙ c.in-4.is) in
    let a : Prints 9 _ _ _ = head_passed c.kind.ensures.passed 4 c.in-4.is (omega (arith, stmt_within _ _ s ready.placed.stands, h.long)) in
    same_steps (also a (q h.p h.t (ready_next a (check_ready _ _ _ s ready h _ refl) a.pos))) (omega (arith, h.long)) (ap (text_stmt c.args.depth) (sym h.is))) c.check.ensures

pub stmt-returns-in-6 : goal.stmt-returns-in-6
stmt-returns-in-6 t c =
    on_ok_weaker {P = BranchPrinted _ _ _ _} {Q = StmtPrinted _ _ _ _} _ (λ q s ready.
    let h = branch_at _ _ s ready.placed.stands (sym c.kind.ensures.value ∙ c.in-6.is) in
    let a : Prints 9 _ _ _ = head_passed c.kind.ensures.passed 6 c.in-6.is (omega (arith, stmt_within _ _ s ready.placed.stands, h.long)) in
    let two = branch_ready _ _ _ s ready h _ refl in
    same_steps (also a (q h.p h.t h.a h.b (ready_next a (branch_test_ready _ _ _ s ready h _ refl) a.pos)
    (ready_next a two.0 (omega (arith, a.pos))) (ready_next a two.1 (omega (arith, a.pos))))) (omega (arith, h.long)) (ap (text_stmt c.args.depth) (sym h.is))) c.branch-self.ensures

pub stmt-returns-in-7 : goal.stmt-returns-in-7
stmt-returns-in-7 t c =
    on_ok_weaker {P = LoopPrinted _ _ _ _} {Q = StmtPrinted _ _ _ _} _ (λ q s ready.
    let h = loop_at _ _ s ready.placed.stands (sym c.kind.ensures.value ∙ c.in-7.is) in
    let a : Prints 9 _ _ _ = head_passed c.kind.ensures.passed 7 c.in-7.is (omega (arith, stmt_within _ _ s ready.placed.stands, h.long)) in
    let two = loop_ready _ _ _ s ready h _ refl in
    same_steps (also a (q h.p h.t h.a (ready_next a two.0 a.pos) (ready_next a two.1 (omega (arith, a.pos))))) (omega (arith, h.long)) (ap (text_stmt c.args.depth) (sym h.is))) c.repeat.ensures
