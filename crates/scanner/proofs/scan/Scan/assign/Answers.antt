-- The number, then the variable, then the expression.
use Rattle.std.proofs.Common.{None}
use Rattle.scanner.specs.Form.{followed}
use Rattle.scanner.specs.Parts.{label_form, byte_form, expr_form}
use Rattle.scanner.proofs.Forms.{no_first, then_plain}
use Rattle.scanner.proofs.scan.Scan.assign.Goals as goal

pub returns-in_err-variable : goal.returns-in_err-variable
returns-in_err-variable c =
    let a = c.args in
    let e = expr_form a.self.now.vars a.self.now.arrays in
    rw c.from_residual.ensures (no_first (label_form a.label) (λ p. followed (byte_form a.self.now.vars) (λ x. e)) c.in_err-variable.ensures)

pub returns-in_err-value : goal.returns-in_err-value
returns-in_err-value c =
    let a = c.args in
    let e = expr_form a.self.now.vars a.self.now.arrays in
    rw c.from_residual-in_err-value.ensures
    (then_plain (label_form a.label) (followed (byte_form a.self.now.vars) (λ x. e)) None (λ stop v r x. x) c.in_ok-variable.ensures
    (no_first (byte_form a.self.now.vars) (λ x. e) c.in_err-value.ensures))

pub returns : goal.returns
returns c =
    let a = c.args in
    let e = expr_form a.self.now.vars a.self.now.arrays in
    then_plain (label_form a.label) (followed (byte_form a.self.now.vars) (λ x. e)) c.expr.result (λ stop v r x. x) c.in_ok-variable.ensures
    (then_plain (byte_form a.self.now.vars) e c.expr.result (λ stop v r x. x) c.in_ok-value.ensures c.expr.ensures)
