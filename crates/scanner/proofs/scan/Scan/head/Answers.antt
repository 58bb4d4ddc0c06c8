-- The number, then the test.
use Rattle.std.proofs.Common.{Some, None}
use Rattle.scanner.specs.Parts.{label_form}
use Rattle.scanner.specs.Trees.{test_form}
use Rattle.scanner.proofs.Forms.{no_first, then_plain}
use Rattle.scanner.proofs.Heads.{head_made}
use Rattle.scanner.proofs.scan.Scan.head.Goals as goal

pub returns-in_err-test : goal.returns-in_err-test
returns-in_err-test c =
    let a = c.args in
    rw c.from_residual.ensures
    (head_made a.self.now.vars a.self.now.arrays a.label a.self.now.text.now a.pos None (no_first (label_form a.label) (λ p. test_form a.self.now.vars a.self.now.arrays 63) c.in_err-test.ensures))

pub returns-in_err-last : goal.returns-in_err-last
returns-in_err-last c =
    let a = c.args in
    rw c.from_residual-in_err-last.ensures
    (head_made a.self.now.vars a.self.now.arrays a.label a.self.now.text.now a.pos None
    (then_plain (label_form a.label) (test_form a.self.now.vars a.self.now.arrays 63) None (λ stop v r x. x) c.in_ok-test.ensures c.in_err-last.ensures))

pub returns : goal.returns
returns c =
    let a = c.args in
    head_made a.self.now.vars a.self.now.arrays a.label a.self.now.text.now a.pos (Some c.in_ok-last.last)
    (then_plain (label_form a.label) (test_form a.self.now.vars a.self.now.arrays 63) (Some c.in_ok-last.last) (λ stop v r x. x) c.in_ok-test.ensures c.in_ok-last.ensures)
