use Rattle.std.proofs.Common.{length}
use Rattle.source.proofs.errors.limit_error.Goals as goal

pub returns-in-Some : goal.returns-in-Some
returns-in-Some c = λ bs w. c.from-reason.ensures.1 bs c.offset_of-offset.result (c.offset_of-offset.ensures (length bs) w)
