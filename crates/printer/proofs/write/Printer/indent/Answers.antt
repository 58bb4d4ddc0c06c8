use Rattle.std.proofs.Common.{sym, refl, ap, add-one}
use Rattle.printer.specs.Text.{indent}
use Rattle.printer.proofs.Adding.{also, same_steps, no_step}
use Rattle.printer.proofs.write.Printer.indent.Goals as goal

pub loop-init : goal.loop-init
unfolding indent
loop-init c = no_step _

pub loop-preserved : goal.loop-preserved
unfolding indent
loop-preserved c = same_steps (also c.loop.invariant c.in_ok-put.ensures) refl (sym (ap indent (add-one c.loop.counter)))
