use Rattle.walker.proofs.Parts.{assign_value}
use Rattle.walker.proofs.Statements.{assign_value_walked, assign_never_walked}
use Rattle.walker.proofs.simple.assign_at.Goals as goal

pub returns-in-Some : goal.returns-in-Some
returns-in-Some c n ms d h s =
    assign_value_walked _ ms n _ _ _ d h s _ _ _ _ _ _ c.eval_here-found.result c.in-Some.s c.word_at-stmt.ensures c.byte_at-x.ensures
    ((rw (c.code.ensures.text, c.code.ensures.lengths) at c.eval_here-found.ensures) s.e (assign_value _ _ _ d h s)) c.in-Some.is c.put.ensures c.mark_faults.ensures

pub returns-in-None : goal.returns-in-None
returns-in-None c n ms d h s =
    assign_never_walked _ ms n _ _ _ d h s _ _ _ _ c.eval_here-found.result c.word_at-stmt.ensures
    ((rw (c.code.ensures.text, c.code.ensures.lengths) at c.eval_here-found.ensures) s.e (assign_value _ _ _ d h s)) c.in-None.is c.mark_faults.ensures
