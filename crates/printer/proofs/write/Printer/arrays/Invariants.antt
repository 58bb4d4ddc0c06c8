use Rattle.printer.specs.Text.{declared_arrays}
use Rattle.printer.specs.Printing.{Prints}
use Rattle.printer.proofs.write.Printer.arrays.Given as goal

-- the arrays so far
abbrev pub invariant-loop-i : goal.invariant-loop-i
invariant-loop-i l = Prints 0 (declared_arrays l.lengths l.i) l.initial.self l.self
