use Rattle.printer.specs.Text.{indent}
use Rattle.printer.specs.Printing.{Prints}
use Rattle.printer.proofs.write.Printer.indent.Given as goal

-- the levels so far
abbrev pub invariant-loop : goal.invariant-loop
invariant-loop l = Prints 0 (indent l.counter) l.initial.self l.self
