use Rattle.std.proofs.Common.{refl}
use Rattle.printer.specs.Text.{declared_arrays}
use Rattle.printer.proofs.Adding.{also, same_steps, no_step}
use Rattle.printer.proofs.Declarations.{array_more}
use Rattle.printer.proofs.write.Printer.arrays.Goals as goal

pub loop-i-init : goal.loop-i-init
unfolding declared_arrays
loop-i-init c = no_step _

pub loop-i-preserved : goal.loop-i-preserved
loop-i-preserved c =
    same_steps (also (also (also (also c.loop-i.invariant c.in_ok-put.ensures) c.in_ok-number.ensures) c.in_ok-number-2.ensures) c.in_ok-put-2.ensures) refl
    (array_more _ c.loop-i.i _ _ c.separator.ensures refl)
