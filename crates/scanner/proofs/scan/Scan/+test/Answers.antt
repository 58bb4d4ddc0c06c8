-- Tests, kind by kind.
use Rattle.std.proofs.Common.{◌-◌, Some, None, arith}
use Rattle.program.specs.Validity.{test_size}
use Rattle.scanner.specs.Trees.{test_form}
use Rattle.scanner.proofs.Forms.{byte_is, no_first, made_same}
use Rattle.scanner.proofs.Tests.{not_tagged, comparison_made, tests_made, test_past, test_no_room, test_other, then_test}
use Rattle.scanner.proofs.scan.Scan.+test.Goals as goal

pub returns-in_err-tag : goal.returns-in_err-tag
returns-in_err-tag t c =
    let a = c.args in
    rw c.from_residual.ensures (test_past a.self.now.vars a.self.now.arrays a.room a.self.now.text.now a.pos c.in_err-tag.ensures)

pub returns-then-room-eq0 : goal.returns-then-room-eq0
returns-then-room-eq0 t c =
    let a = c.args in
    test_no_room a.self.now.vars a.self.now.arrays a.room a.self.now.text.now a.pos c.if-room-eq0.true

pub returns-in_err-end-in-0 : goal.returns-in_err-end-in-0
returns-in_err-end-in-0 t c =
    rw c.from_residual-in_err-end-in-0.ensures
    (comparison_made c.args.self.now.vars c.args.self.now.arrays c.args.room (omega arith) c.in_ok-tag.tag c.in_ok-tag.ensures (omega arith) None c.in_err-end-in-0.ensures)

pub returns-in_ok-end-in-0 : goal.returns-in_ok-end-in-0
returns-in_ok-end-in-0 t c =
    comparison_made c.args.self.now.vars c.args.self.now.arrays c.args.room (omega arith) c.in_ok-tag.tag c.in_ok-tag.ensures (omega arith) (Some c.in_ok-end-in-0.end) c.in_ok-end-in-0.ensures

pub returns-in-2 : goal.returns-in-2
returns-in-2 t c = made_same (not_tagged c.args.self.now.vars c.args.self.now.arrays c.args.room (omega arith)) (byte_is c.in_ok-tag.ensures c.in-2.is) _ c.test.ensures

pub returns-in_err-first-in-3 : goal.returns-in_err-first-in-3
returns-in_err-first-in-3 t c =
    let a = c.args in
    rw c.from_residual-in_err-first-in-3.ensures
    (tests_made a.self.now.vars a.self.now.arrays a.room (omega arith) c.in_ok-tag.tag c.in_ok-tag.ensures (omega arith) (omega arith) None
    (no_first (test_form a.self.now.vars a.self.now.arrays (a.room - 1)) (λ u. test_form a.self.now.vars a.self.now.arrays (a.room - 1 - test_size u)) c.in_err-first-in-3.ensures))

pub returns-in_ok-first-in-3 : goal.returns-in_ok-first-in-3
returns-in_ok-first-in-3 t c =
    let a = c.args in
    tests_made a.self.now.vars a.self.now.arrays a.room (omega arith) c.in_ok-tag.tag c.in_ok-tag.ensures (omega arith) (omega arith) c.test-in-3-2.result
    (then_test a.self.now.vars a.self.now.arrays (a.room - 1) a.self.now.text.now _ c.in_ok-first-in-3.first c.test-in-3-2.result c.in_ok-first-in-3.ensures c.test-in-3-2.ensures)

pub returns-in_default : goal.returns-in_default
returns-in_default t c =
    let a = c.args in
    test_other a.self.now.vars a.self.now.arrays a.room a.self.now.text.now a.pos c.in_ok-tag.tag c.in_ok-tag.ensures (omega arith)
