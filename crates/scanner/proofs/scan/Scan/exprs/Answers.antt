-- The second expression is looked for where the first ends.
use Rattle.scanner.specs.Parts.{expr_form}
use Rattle.scanner.proofs.Forms.{no_first, then_plain}
use Rattle.scanner.proofs.scan.Scan.exprs.Goals as goal

pub returns-in_err-second : goal.returns-in_err-second
returns-in_err-second c =
    let e = expr_form c.args.self.now.vars c.args.self.now.arrays in
    rw c.from_residual.ensures (no_first e (λ a. e) c.in_err-second.ensures)

pub returns : goal.returns
returns c =
    let e = expr_form c.args.self.now.vars c.args.self.now.arrays in
    then_plain e e c.expr-2.result (λ stop v r a. a) c.in_ok-second.ensures c.expr-2.ensures
