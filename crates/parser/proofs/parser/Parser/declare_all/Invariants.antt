use Rattle.std.proofs.Common.{◌-◌, length}
use Rattle.parser.specs.Reading.{Declares}
use Rattle.parser.proofs.parser.Parser.declare_all.Given as goal

abbrev pub invariant-loop-sort : goal.invariant-loop-sort
invariant-loop-sort l = Declares l.fn.self l.self

abbrev pub decreases-loop-sort : goal.decreases-loop-sort
decreases-loop-sort l = length l.self.tokens.now - l.self.at
