-- The first byte tells whether the expression is a variable.
use Rattle.std.proofs.Common.{◌∙◌, sym}
use Rattle.evaluate.proofs.Comparisons.{is_variable, no_variable}
use Rattle.evaluate.proofs.comparison.variable_at.Goals as goal

pub returns-then-byte_at-eq1 : goal.returns-then-byte_at-eq1
returns-then-byte_at-eq1 c e h = is_variable _ _ e h (sym c.byte_at.ensures ∙ c.if-byte_at-eq1.true) _ c.byte_at-then-byte_at-eq1.ensures

pub returns : goal.returns
returns c e h = no_variable _ _ e h (λ one. c.if-byte_at-eq1.false (c.byte_at.ensures ∙ one))
