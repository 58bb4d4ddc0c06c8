use Rattle.printer.specs.Text.{declared_variables}
use Rattle.printer.specs.Printing.{Prints}
use Rattle.printer.proofs.write.Printer.variables.Given as goal

-- the variables so far
abbrev pub invariant-loop-i : goal.invariant-loop-i
invariant-loop-i l = Prints 0 (declared_variables l.i) l.initial.self l.self
