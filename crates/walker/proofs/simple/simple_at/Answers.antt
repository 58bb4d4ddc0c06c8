use Rattle.encoding.proofs.Parts.{assign_at, store_at, input_at, check_at}
use Rattle.walker.proofs.simple.simple_at.Goals as goal

pub returns-in-1 : goal.returns-in-1
returns-in-1 c n ms d h k = c.assign_at.ensures n ms d h (assign_at _ _ d h.stands c.in-1.is)

pub returns-in-2 : goal.returns-in-2
returns-in-2 c n ms d h k = c.store_at.ensures n ms d h (store_at _ _ d h.stands c.in-2.is)

pub returns-in-3 : goal.returns-in-3
returns-in-3 c n ms d h k = c.input_at.ensures _ n ms d h (input_at _ _ d h.stands c.in-3.is)

pub returns-in-4 : goal.returns-in-4
returns-in-4 c n ms d h k = c.check_at.ensures n ms d h (check_at _ _ d h.stands c.in-4.is)
