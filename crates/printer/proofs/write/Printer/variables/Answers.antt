use Rattle.std.proofs.Common.{refl}
use Rattle.printer.specs.Text.{declared_variables}
use Rattle.printer.proofs.Adding.{also, same_steps, no_step}
use Rattle.printer.proofs.Declarations.{variable_more}
use Rattle.printer.proofs.write.Printer.variables.Goals as goal

pub loop-i-init : goal.loop-i-init
unfolding declared_variables
loop-i-init c = no_step _

pub loop-i-preserved : goal.loop-i-preserved
loop-i-preserved c = same_steps (also (also c.loop-i.invariant c.in_ok-put.ensures) c.in_ok-number.ensures) refl (variable_more c.loop-i.i _ c.separator.ensures)
