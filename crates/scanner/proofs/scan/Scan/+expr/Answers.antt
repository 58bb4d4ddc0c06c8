-- Expressions, kind by kind.
use Rattle.std.proofs.Common.{◌≤◌, None, arith}
use Rattle.scanner.specs.Parts.{byte_form, expr_form, exprs_form}
use Rattle.scanner.proofs.Forms.{byte_is, no_first, then_plain, made_same}
use Rattle.scanner.proofs.Exprs.{num_tagged, var_tagged, bin_tagged, element_tagged, expr_past, expr_other}
use Rattle.scanner.proofs.scan.Scan.+expr.Goals as goal

pub returns-in_err-byte_at : goal.returns-in_err-byte_at
returns-in_err-byte_at t c =
    let a = c.args in
    rw c.from_residual.ensures (expr_past a.self.now.vars a.self.now.arrays a.self.now.text.now a.pos c.in_err-byte_at.ensures)

pub returns-in-0 : goal.returns-in-0
returns-in-0 t c = made_same (num_tagged c.args.self.now.vars c.args.self.now.arrays) (byte_is c.in_ok-byte_at.ensures c.in-0.is) _ c.scan_number.ensures

pub returns-in-1 : goal.returns-in-1
returns-in-1 t c = made_same (var_tagged c.args.self.now.vars c.args.self.now.arrays) (byte_is c.in_ok-byte_at.ensures c.in-1.is) _ c.scan_byte.ensures

pub returns-in_err-left-in-2 : goal.returns-in_err-left-in-2
returns-in_err-left-in-2 t c =
    let a = c.args in
    let e = expr_form a.self.now.vars a.self.now.arrays in
    rw c.from_residual-in_err-left-in-2.ensures
    (made_same (bin_tagged a.self.now.vars a.self.now.arrays) (byte_is c.in_ok-byte_at.ensures c.in-2.is) None
    (no_first (byte_form 5) (λ k. exprs_form a.self.now.vars a.self.now.arrays) c.in_err-left-in-2.ensures))

pub returns-in_err-right-in-2 : goal.returns-in_err-right-in-2
returns-in_err-right-in-2 t c =
    let a = c.args in
    let e = expr_form a.self.now.vars a.self.now.arrays in
    rw c.from_residual-in_err-right-in-2.ensures
    (made_same (bin_tagged a.self.now.vars a.self.now.arrays) (byte_is c.in_ok-byte_at.ensures c.in-2.is) None
    (then_plain (byte_form 5) (exprs_form a.self.now.vars a.self.now.arrays) None (λ stop v r x. x) c.in_ok-left-in-2.ensures
    (no_first e (λ x. e) c.in_err-right-in-2.ensures)))

pub returns-in_ok-right-in-2 : goal.returns-in_ok-right-in-2
returns-in_ok-right-in-2 t c =
    let a = c.args in
    let e = expr_form a.self.now.vars a.self.now.arrays in
    made_same (bin_tagged a.self.now.vars a.self.now.arrays) (byte_is c.in_ok-byte_at.ensures c.in-2.is) c.expr-in-2.result
    (then_plain (byte_form 5) (exprs_form a.self.now.vars a.self.now.arrays) c.expr-in-2.result (λ stop v r x. x) c.in_ok-left-in-2.ensures
    (then_plain e e c.expr-in-2.result (λ stop v r x. x) c.in_ok-right-in-2.ensures c.expr-in-2.ensures))

pub returns-in_err-index-in-3 : goal.returns-in_err-index-in-3
returns-in_err-index-in-3 t c =
    let a = c.args in
    rw c.from_residual-in_err-index-in-3.ensures
    (made_same (element_tagged a.self.now.vars a.self.now.arrays) (byte_is c.in_ok-byte_at.ensures c.in-3.is) None
    (no_first (byte_form a.self.now.arrays) (λ s. expr_form a.self.now.vars a.self.now.arrays) c.in_err-index-in-3.ensures))

pub returns-in_ok-index-in-3 : goal.returns-in_ok-index-in-3
returns-in_ok-index-in-3 t c =
    let a = c.args in
    made_same (element_tagged a.self.now.vars a.self.now.arrays) (byte_is c.in_ok-byte_at.ensures c.in-3.is) c.expr-in-3.result
    (then_plain (byte_form a.self.now.arrays) (expr_form a.self.now.vars a.self.now.arrays) c.expr-in-3.result (λ stop v r x. x)
    c.in_ok-index-in-3.ensures c.expr-in-3.ensures)

pub returns-in_default : goal.returns-in_default
returns-in_default t c =
    let a = c.args in
    let l : 4 ≤ c.in_ok-byte_at.field-0 = omega arith in
    expr_other a.self.now.vars a.self.now.arrays a.self.now.text.now a.pos c.in_ok-byte_at.field-0 c.in_ok-byte_at.ensures l
