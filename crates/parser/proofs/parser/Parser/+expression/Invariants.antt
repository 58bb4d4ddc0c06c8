use Rattle.std.proofs.Common.{◌+◌, ◌-◌, ◌*◌, ◌≤◌, length, vec_len}
use Rattle.parser.specs.Reading.{ReadsExpr}
use Rattle.parser.proofs.parser.Parser.+expression.Given as goal

abbrev pub decreases-element : goal.decreases-element
decreases-element l = 16 * l.left + 15

abbrev pub decreases-join : goal.decreases-join
decreases-join l = 16 * l.left + 2 * l.level + 2

abbrev pub decreases-operand : goal.decreases-operand
decreases-operand l = 16 * l.left + 2

abbrev pub decreases-operators : goal.decreases-operators
decreases-operators l = 16 * l.left + 2 * l.level + 3

abbrev pub invariant-operators-loop-operator : goal.invariant-operators-loop-operator
invariant-operators-loop-operator l = (l.start ≤ vec_len l.self.program) × ReadsExpr l.fn.self l.self

abbrev pub decreases-operators-loop-operator : goal.decreases-operators-loop-operator
decreases-operators-loop-operator l = length l.self.tokens.now - l.self.at
