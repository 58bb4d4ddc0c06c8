use Rattle.std.proofs.Common.{arith}
use Rattle.runner.proofs.Loading.{body_ready, comes_to}
use Rattle.runner.proofs.run.run_program.Goals as goal

pub returns-in-Ok : goal.returns-in-Ok
returns-in-Ok c p h =
    let b = c.in_ok-state.ensures.starts p h in
    let f = c.in-Ok.ensures p.body (body_ready _ p h _ (omega (arith, c.len.ensures, b.count_is))) in
    comes_to _ p _ _ _ (b.state c.args.inputs.now) f.is

pub returns-in-Err-Fault : goal.returns-in-Err-Fault
returns-in-Err-Fault c p h =
    let b = c.in_ok-state.ensures.starts p h in
    let f = rw c.in-Err-Fault.field-0-is at c.in-Err-Fault.ensures in
    rw c.number.ensures (comes_to _ p _ _ _ (b.state c.args.inputs.now) (f p.body (body_ready _ p h _ (omega (arith, c.len.ensures, b.count_is)))))

pub returns-in-Err-OutOfRounds : goal.returns-in-Err-OutOfRounds
returns-in-Err-OutOfRounds c p h =
    let b = c.in_ok-state.ensures.starts p h in
    let f = rw c.in-Err-OutOfRounds.field-0-is at c.in-Err-OutOfRounds.ensures in
    comes_to _ p _ _ _ (b.state c.args.inputs.now) (f p.body (body_ready _ p h _ (omega (arith, c.len.ensures, b.count_is))))

pub returns : goal.returns
returns c p h =
    let b = c.in_ok-state.ensures.starts p h in
    let f = rw c.in-Err-NoProgram.field-0-is at c.in-Err-NoProgram.ensures in
    f p.body (body_ready _ p h _ (omega (arith, c.len.ensures, b.count_is)))
