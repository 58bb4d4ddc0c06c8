use Rattle.std.proofs.Common.{◌-◌, length, vec_items}
use Rattle.lexer.specs.Tokens.{texts}
use Rattle.lexer.proofs.Steps.{SoFar}
use Rattle.lexer.proofs.whole.lex.Given as goal

abbrev pub invariant-loop-at : goal.invariant-loop-at
invariant-loop-at l = SoFar l.text l.at (vec_items l.starts) (vec_items l.tokens) (texts (vec_items l.words))

abbrev pub decreases-loop-at : goal.decreases-loop-at
decreases-loop-at l = length l.text - l.at
