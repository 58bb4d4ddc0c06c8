use Rattle.source.proofs.Exits.{reads_err}
use Rattle.source.proofs.whole.assemble.Goals as goal

pub returns-in_err-starts : goal.returns-in_err-starts
returns-in_err-starts c = λ bs h. reads_err _ _ bs (λ e p. p.1 bs) c.from_residual.ensures.1

pub returns-in_err-variables : goal.returns-in_err-variables
returns-in_err-variables c = λ bs h. reads_err _ _ bs (λ e p. p.1 bs) c.from_residual-in_err-variables.ensures.1

pub returns-in_err-arrays : goal.returns-in_err-arrays
returns-in_err-arrays c = λ bs h. reads_err _ _ bs (λ e p. p.1 bs) c.from_residual-in_err-arrays.ensures.1

pub returns-in_err-is_valid : goal.returns-in_err-is_valid
returns-in_err-is_valid c = λ bs h. reads_err _ _ bs (λ e p. p.1 bs) c.from_residual-in_err-is_valid.ensures.1
