use Rattle.std.proofs.Common.{◌≡◌, vec_items}
use Rattle.program.specs.Syntax.{Program}
use Rattle.session.specs.Sessions.{Holds}
use Rattle.findings.specs.Ends.{AllEnds}
use Rattle.findings.proofs.ends_of.Given as goal

-- the program stays, and the rows so far tell the ends of the variables so far
abbrev pub invariant-loop-x : goal.invariant-loop-x
invariant-loop-x l = (p : Program) → Holds l.initial.session p → l.vars ≡ p.vars → Holds l.session p × AllEnds p l.x (vec_items l.ends)
