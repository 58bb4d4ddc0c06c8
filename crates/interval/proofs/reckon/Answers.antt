-- A refusal is told by its number; what is not refused has room in the slice.
use Rattle.interval.proofs.Reckoning.{room, says_result, tells_refusal}
use Rattle.interval.proofs.reckon.Goals as goal

pub put_result-requires : goal.put_result-requires
put_result-requires c = room _ _ _ _ _ _ c.in-Ok.ensures.0

pub returns-in-Ok : goal.returns-in-Ok
returns-in-Ok c = says_result _ _ _ _ _ _ _ _ c.in-Ok.ensures.0 (c.put_result.ensures _ c.in-Ok.ensures.1)

pub returns-in-Err : goal.returns-in-Err
returns-in-Err c = tells_refusal _ _ _ _ _ _ c.in-Err.refusal _ c.in-Err.ensures c.number.ensures
