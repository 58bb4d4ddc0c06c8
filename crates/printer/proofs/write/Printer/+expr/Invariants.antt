use Rattle.printer.proofs.write.Printer.+expr.Given as goal

abbrev pub decreases-expr : goal.decreases-expr
decreases-expr l = l.left
