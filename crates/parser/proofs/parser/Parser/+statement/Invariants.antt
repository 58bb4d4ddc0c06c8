use Rattle.std.proofs.Common.{◌+◌, ◌-◌, ◌*◌, length}
use Rattle.parser.specs.Reading.{ReadsOn}
use Rattle.parser.proofs.parser.Parser.+statement.Given as goal

abbrev pub decreases-branch : goal.decreases-branch
decreases-branch l = 4 * l.left + 3

abbrev pub decreases-group : goal.decreases-group
decreases-group l = 4 * l.left + 2

abbrev pub decreases-repeat : goal.decreases-repeat
decreases-repeat l = 4 * l.left + 2

abbrev pub decreases-list : goal.decreases-list
decreases-list l = 4 * l.left + 1

abbrev pub decreases-statement : goal.decreases-statement
decreases-statement l = 4 * l.left

abbrev pub invariant-list-loop-self : goal.invariant-list-loop-self
invariant-list-loop-self l = ReadsOn l.fn.self l.self

abbrev pub decreases-list-loop-self : goal.decreases-list-loop-self
decreases-list-loop-self l = length l.self.tokens.now - l.self.at
