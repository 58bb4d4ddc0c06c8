-- The number, then the variable, then the range.
use Rattle.std.proofs.Common.{None}
use Rattle.scanner.specs.Form.{followed}
use Rattle.scanner.specs.Parts.{label_form, byte_form, range_form}
use Rattle.scanner.proofs.Forms.{no_first, then_plain}
use Rattle.scanner.proofs.scan.Scan.input.Goals as goal

pub returns-in_err-variable : goal.returns-in_err-variable
returns-in_err-variable c =
    let e = range_form in
    rw c.from_residual.ensures (no_first (label_form c.args.label) (λ p. followed (byte_form c.args.self.now.vars) (λ x. e)) c.in_err-variable.ensures)

pub returns-in_err-range : goal.returns-in_err-range
returns-in_err-range c =
    let e = range_form in
    rw c.from_residual-in_err-range.ensures
    (then_plain (label_form c.args.label) (followed (byte_form c.args.self.now.vars) (λ x. e)) None (λ stop v r a. a) c.in_ok-variable.ensures
    (no_first (byte_form c.args.self.now.vars) (λ x. e) c.in_err-range.ensures))

pub returns : goal.returns
returns c =
    let e = range_form in
    then_plain (label_form c.args.label) (followed (byte_form c.args.self.now.vars) (λ x. e)) c.scan_range.result (λ stop v r a. a) c.in_ok-variable.ensures
    (then_plain (byte_form c.args.self.now.vars) e c.scan_range.result (λ stop v r a. a) c.in_ok-range.ensures c.scan_range.ensures)
