-- Each arm of the loop is a step of the machine's run.
use Rattle.std.proofs.Common.{List, vec_items, sym, refl, subst, arith}
use Rattle.std.proofs.lemmas.Result.{err_from_is_err_and}
use Rattle.session.specs.declared.rows.Row.{Row}
use Rattle.session.proofs.Runs.{SoFar, at_first, turn, row_told, cursor_falls, row_more, ended_done, ended_no}
use Rattle.session.proofs.run.run_command.Goals as goal

pub loop-n-init : goal.loop-n-init
loop-n-init c =
    let P : List Row → Type 0 = SoFar c.args.memory.now c.args.text.now c.args.memory.now 0 in
    (refl, subst P (sym c.new-rows.ensures.items) (at_first c.args.memory.now c.args.text.now))

pub read_row-requires : goal.read_row-requires
read_row-requires c = (row_told (turn c.step.new.memory c.step.new.out c.loop-n.invariant.1 c.loop-n.invariant.0 (omega arith) c.in-Shows.ensures)).size

pub returns-in_err-push-in-Shows : goal.returns-in_err-push-in-Shows
returns-in_err-push-in-Shows c =
    let t = row_told (turn c.step.new.memory c.step.new.out c.loop-n.invariant.1 c.loop-n.invariant.0 (omega arith) c.in-Shows.ensures) in
    let p = err_from_is_err_and c.from_residual.result c.from_residual.ensures.1 in
    rw p.1 (record { ended = tt; kept = λ q st. t.more.kept q (c.loop-n.invariant.1.kept q st) })

pub returns-in-Done : goal.returns-in-Done
returns-in-Done c =
    record { ended = ended_done (turn c.step.new.memory c.step.new.out c.loop-n.invariant.1 c.loop-n.invariant.0 (omega arith) c.in-Done.ensures); kept = tt }

pub returns-in-No : goal.returns-in-No
returns-in-No c =
    record { ended = ended_no (turn c.step.new.memory c.step.new.out c.loop-n.invariant.1 c.loop-n.invariant.0 (omega arith) c.in-No.ensures); kept = tt }

pub loop-n-smaller : goal.loop-n-smaller
loop-n-smaller c =
    let t = row_told (turn c.step.new.memory c.step.new.out c.loop-n.invariant.1 c.loop-n.invariant.0 (omega arith) c.in-Shows.ensures) in
    cursor_falls c.loop-n.memory _ c.step.new.memory c.loop-n.kind c.in-Shows.n _ c.loop-n.invariant.1.asked t

pub loop-n-preserved : goal.loop-n-preserved
loop-n-preserved c =
    let t = row_told (turn c.step.new.memory c.step.new.out c.loop-n.invariant.1 c.loop-n.invariant.0 (omega arith) c.in-Shows.ensures) in (
      omega arith,
      row_more c.args.memory.now c.args.text.now c.loop-n.memory c.step.new.memory c.loop-n.kind c.in-Shows.n c.step.new.out
          (vec_items c.loop-n.rows) (vec_items c.push.new.self) c.read_row.result c.loop-n.invariant.1 t c.read_row.ensures.bytes c.read_row.ensures.words
          c.in_ok-push-in-Shows.ensures.items,
    )
