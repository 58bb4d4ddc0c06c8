-- Statements, kind by kind.
use Rattle.std.proofs.Common.{◌+◌, ◌-◌, length, None, arith, rules}
use Rattle.program.specs.Validity.{stmt_numbers}
use Rattle.scanner.specs.Trees.{head_form, stmt_form}
use Rattle.scanner.proofs.Forms.{byte_is, no_first, then_plain, made, made_same}
use Rattle.scanner.proofs.Stmts.{skip_found, assign_tagged, store_tagged, input_tagged, check_tagged, stmts_form, seq_tagged, branch_tagged, loop_tagged, then_stmt, next_within, stmt_past, stmt_other, no_branch, no_loop}
use Rattle.scanner.proofs.scan.Scan.+stmt.Goals as goal

pub returns-in_err-byte_at : goal.returns-in_err-byte_at
returns-in_err-byte_at t c =
    let a = c.args in
    rw c.from_residual.ensures (stmt_past a.self.now.vars a.self.now.arrays a.nesting a.loops a.next a.self.now.text.now a.pos c.in_err-byte_at.ensures)

pub returns-in-0 : goal.returns-in-0
returns-in-0 t c =
    let a = c.args in
    skip_found a.self.now.vars a.self.now.arrays a.nesting a.loops a.next a.self.now.text.now a.pos (byte_is c.in_ok-byte_at.ensures c.in-0.is)

pub returns-in-1 : goal.returns-in-1
returns-in-1 t c =
    let a = c.args in
    rw c.numbered.ensures
    (made (assign_tagged a.self.now.vars a.self.now.arrays a.nesting a.loops a.next) (byte_is c.in_ok-byte_at.ensures c.in-1.is) c.assign.result c.assign.ensures)

pub returns-in-2 : goal.returns-in-2
returns-in-2 t c =
    let a = c.args in
    rw c.numbered-in-2.ensures
    (made (store_tagged a.self.now.vars a.self.now.arrays a.nesting a.loops a.next) (byte_is c.in_ok-byte_at.ensures c.in-2.is) c.store.result c.store.ensures)

pub returns-in-3 : goal.returns-in-3
returns-in-3 t c =
    let a = c.args in
    rw c.numbered-in-3.ensures
    (made (input_tagged a.self.now.vars a.self.now.arrays a.nesting a.loops a.next) (byte_is c.in_ok-byte_at.ensures c.in-3.is) c.input.result c.input.ensures)

pub returns-in-4 : goal.returns-in-4
returns-in-4 t c =
    let a = c.args in
    rw c.numbered-in-4.ensures
    (made (check_tagged a.self.now.vars a.self.now.arrays a.nesting a.loops a.next) (byte_is c.in_ok-byte_at.ensures c.in-4.is) c.head.result c.head.ensures)

pub returns-in_err-first-in-5 : goal.returns-in_err-first-in-5
returns-in_err-first-in-5 t c =
    let a = c.args in
    rw c.from_residual-in_err-first-in-5.ensures
    (made_same (seq_tagged a.self.now.vars a.self.now.arrays a.nesting a.loops a.next) (byte_is c.in_ok-byte_at.ensures c.in-5.is) None
    (no_first (stmt_form a.self.now.vars a.self.now.arrays a.nesting a.loops a.next) (λ d. stmt_form a.self.now.vars a.self.now.arrays a.nesting a.loops (a.next + length (stmt_numbers d))) c.in_err-first-in-5.ensures))

pub stmt-requires-in-5 : goal.stmt-requires-in-5
stmt-requires-in-5 t c =
    let a = c.args in
    (search rules, next_within a.self.now.vars a.self.now.arrays a.nesting a.loops a.next a.self.now.text.now (a.pos + 1) c.in_ok-first-in-5.first c.in_ok-first-in-5.ensures (omega (arith, c.requires)))

pub returns-then-nesting-eq0 : goal.returns-then-nesting-eq0
returns-then-nesting-eq0 t c =
    let a = c.args in
    no_branch a.self.now.vars a.self.now.arrays a.nesting a.loops a.next a.self.now.text.now a.pos (byte_is c.in_ok-byte_at.ensures c.in-6.is) c.if-nesting-eq0.true

pub returns-in_err-yes-in-6 : goal.returns-in_err-yes-in-6
returns-in_err-yes-in-6 t c =
    let a = c.args in
    rw c.from_residual-in_err-yes-in-6.ensures
    (made_same (branch_tagged a.self.now.vars a.self.now.arrays a.nesting a.loops a.next (omega arith)) (byte_is c.in_ok-byte_at.ensures c.in-6.is) None
    (no_first (head_form a.self.now.vars a.self.now.arrays a.next) (λ p. stmts_form a.self.now.vars a.self.now.arrays (a.nesting - 1) a.loops (a.next + 1)) c.in_err-yes-in-6.ensures))

pub returns-in_err-no-in-6 : goal.returns-in_err-no-in-6
returns-in_err-no-in-6 t c =
    let a = c.args in
    rw c.from_residual-in_err-no-in-6.ensures
    (made_same (branch_tagged a.self.now.vars a.self.now.arrays a.nesting a.loops a.next (omega arith)) (byte_is c.in_ok-byte_at.ensures c.in-6.is) None
    (then_plain (head_form a.self.now.vars a.self.now.arrays a.next) (stmts_form a.self.now.vars a.self.now.arrays (a.nesting - 1) a.loops (a.next + 1)) None (λ stop v r x. x) c.in_ok-yes-in-6.ensures
    (no_first (stmt_form a.self.now.vars a.self.now.arrays (a.nesting - 1) a.loops (a.next + 1)) (λ d. stmt_form a.self.now.vars a.self.now.arrays (a.nesting - 1) a.loops (a.next + 1 + length (stmt_numbers d))) c.in_err-no-in-6.ensures)))

pub stmt-requires-in-6-2 : goal.stmt-requires-in-6-2
stmt-requires-in-6-2 t c =
    let a = c.args in
    (search rules, next_within a.self.now.vars a.self.now.arrays (a.nesting - 1) a.loops (a.next + 1) a.self.now.text.now c.in_ok-yes-in-6.yes c.in_ok-no-in-6.no c.in_ok-no-in-6.ensures (omega (arith, c.requires, c.in_ok-yes-in-6.ensures.0.1.1)))

pub returns-then-nesting-eq0-2 : goal.returns-then-nesting-eq0-2
returns-then-nesting-eq0-2 t c =
    let a = c.args in
    no_loop a.self.now.vars a.self.now.arrays a.nesting a.loops a.next a.self.now.text.now a.pos (byte_is c.in_ok-byte_at.ensures c.in-7.is) (λ x y. omega (arith, c.then-nesting-eq0-2.either, x, y))

pub returns-in_err-body-in-7 : goal.returns-in_err-body-in-7
returns-in_err-body-in-7 t c =
    let a = c.args in
    rw c.from_residual-in_err-body-in-7.ensures
    (made_same (loop_tagged a.self.now.vars a.self.now.arrays a.nesting a.loops a.next (omega arith) (omega arith)) (byte_is c.in_ok-byte_at.ensures c.in-7.is) None
    (no_first (head_form a.self.now.vars a.self.now.arrays a.next) (λ p. stmt_form a.self.now.vars a.self.now.arrays (a.nesting - 1) (a.loops - 1) (a.next + 1)) c.in_err-body-in-7.ensures))

pub returns-in_ok-first-in-5 : goal.returns-in_ok-first-in-5
returns-in_ok-first-in-5 t c =
    let a = c.args in
    made_same (seq_tagged a.self.now.vars a.self.now.arrays a.nesting a.loops a.next) (byte_is c.in_ok-byte_at.ensures c.in-5.is) c.stmt-in-5.result
    (then_stmt a.self.now.vars a.self.now.arrays a.nesting a.loops a.next a.self.now.text.now (a.pos + 1) c.in_ok-first-in-5.first c.stmt-in-5.result c.in_ok-first-in-5.ensures c.stmt-in-5.ensures)

pub returns-in_ok-no-in-6 : goal.returns-in_ok-no-in-6
returns-in_ok-no-in-6 t c =
    let a = c.args in
    made_same (branch_tagged a.self.now.vars a.self.now.arrays a.nesting a.loops a.next (omega arith)) (byte_is c.in_ok-byte_at.ensures c.in-6.is) c.stmt-in-6-2.result
    (then_plain (head_form a.self.now.vars a.self.now.arrays a.next) (stmts_form a.self.now.vars a.self.now.arrays (a.nesting - 1) a.loops (a.next + 1)) c.stmt-in-6-2.result (λ stop v r x. x) c.in_ok-yes-in-6.ensures
    (then_stmt a.self.now.vars a.self.now.arrays (a.nesting - 1) a.loops (a.next + 1) a.self.now.text.now c.in_ok-yes-in-6.yes c.in_ok-no-in-6.no c.stmt-in-6-2.result c.in_ok-no-in-6.ensures c.stmt-in-6-2.ensures))

pub returns-in_ok-body-in-7 : goal.returns-in_ok-body-in-7
returns-in_ok-body-in-7 t c =
    let a = c.args in
    made_same (loop_tagged a.self.now.vars a.self.now.arrays a.nesting a.loops a.next (omega arith) (omega arith)) (byte_is c.in_ok-byte_at.ensures c.in-7.is) c.stmt-in-7.result
    (then_plain (head_form a.self.now.vars a.self.now.arrays a.next) (stmt_form a.self.now.vars a.self.now.arrays (a.nesting - 1) (a.loops - 1) (a.next + 1)) c.stmt-in-7.result (λ stop v r x. x) c.in_ok-body-in-7.ensures c.stmt-in-7.ensures)

pub returns-in_default : goal.returns-in_default
returns-in_default t c =
    let a = c.args in
    stmt_other a.self.now.vars a.self.now.arrays a.nesting a.loops a.next a.self.now.text.now a.pos c.in_ok-byte_at.field-0 c.in_ok-byte_at.ensures (omega arith)
