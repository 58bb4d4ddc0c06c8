use Rattle.walker.proofs.Parts.{check_condition}
use Rattle.walker.proofs.Statements.{check_walked}
use Rattle.walker.proofs.simple.check_at.Goals as goal

pub returns : goal.returns
returns c n ms d h s =
    let ways = (rw (c.code.ensures.text, c.code.ensures.lengths) at c.test_at-ways.ensures) s.t (check_condition _ _ _ d h s) in
    check_walked _ ms n _ _ _ d h s _ _ _ _ _ _ _ c.word_at-stmt.ensures ways.yes (c.check_faults.ensures _ _ _ s.t ways) c.mark_faults.ensures ways.end
