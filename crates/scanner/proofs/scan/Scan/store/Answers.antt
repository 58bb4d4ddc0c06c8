-- The number, then the array, then the index and the value.
use Rattle.std.proofs.Common.{None}
use Rattle.scanner.specs.Form.{followed}
use Rattle.scanner.specs.Parts.{label_form, byte_form, exprs_form}
use Rattle.scanner.proofs.Forms.{no_first, then_plain}
use Rattle.scanner.proofs.scan.Scan.store.Goals as goal

pub returns-in_err-array : goal.returns-in_err-array
returns-in_err-array c =
    let a = c.args in
    let e = exprs_form a.self.now.vars a.self.now.arrays in
    rw c.from_residual.ensures (no_first (label_form a.label) (λ p. followed (byte_form a.self.now.arrays) (λ x. e)) c.in_err-array.ensures)

pub returns-in_err-index : goal.returns-in_err-index
returns-in_err-index c =
    let a = c.args in
    let e = exprs_form a.self.now.vars a.self.now.arrays in
    rw c.from_residual-in_err-index.ensures
    (then_plain (label_form a.label) (followed (byte_form a.self.now.arrays) (λ x. e)) None (λ stop v r x. x) c.in_ok-array.ensures
    (no_first (byte_form a.self.now.arrays) (λ x. e) c.in_err-index.ensures))

pub returns : goal.returns
returns c =
    let a = c.args in
    let e = exprs_form a.self.now.vars a.self.now.arrays in
    then_plain (label_form a.label) (followed (byte_form a.self.now.arrays) (λ x. e)) c.exprs.result (λ stop v r x. x) c.in_ok-array.ensures
    (then_plain (byte_form a.self.now.arrays) e c.exprs.result (λ stop v r x. x) c.in_ok-index.ensures c.exprs.ensures)
