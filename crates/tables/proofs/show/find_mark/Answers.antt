-- The table is looked through from the cursor on.
use Rattle.std.proofs.Common.{arith}
use Rattle.tables.proofs.Showing.{marks_past, marks_none, marks_some}
use Rattle.tables.proofs.show.find_mark.Goals as goal

pub returns-in_err-marks : goal.returns-in_err-marks
returns-in_err-marks c = rw c.from_residual.ensures (marks_past c.args.memory.now c.args.cursor (omega arith) c.in_err-marks.ensures.lookup.0)

pub returns-in_err-passed : goal.returns-in_err-passed
returns-in_err-passed c =
    let h = c.in_ok-marks.ensures.lookup.0 in
    rw c.from_residual-in_err-passed.ensures (marks_none c.args.memory.now c.args.cursor (omega arith) c.in_ok-marks.marks.now h.0 h.2 c.in_err-passed.ensures)

pub returns : goal.returns
returns c =
    let h = c.in_ok-marks.ensures.lookup.0 in
    marks_some c.args.memory.now c.args.cursor (omega arith) c.in_ok-marks.marks.now c.in_ok-passed.passed h.0 h.2 h.3 c.in_ok-passed.ensures
