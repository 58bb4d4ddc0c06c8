-- Two numbers that are a range, two that aren't, or none.
use Rattle.std.proofs.Common.{sym, arith}
use Rattle.scanner.proofs.Parts.{range_past, range_wrong, range_found}
use Rattle.scanner.proofs.scan.scan_range.Goals as goal

pub returns-in_err-low : goal.returns-in_err-low
returns-in_err-low c = rw c.from_residual.ensures (range_past c.args.text.now c.args.pos (omega (arith, c.in_err-low.ensures)))

pub returns-in_err-high : goal.returns-in_err-high
returns-in_err-high c = rw c.from_residual-in_err-high.ensures (range_past c.args.text.now c.args.pos (omega (arith, c.in_err-high.ensures)))

pub returns-then-is_range : goal.returns-then-is_range
returns-then-is_range c =
    range_found c.args.text.now c.args.pos c.in_ok-low.low c.in_ok-high.high c.in_ok-low.ensures c.in_ok-high.ensures (sym c.if-is_range.ensures)

pub returns-else-is_range : goal.returns-else-is_range
returns-else-is_range c =
    range_wrong c.args.text.now c.args.pos c.in_ok-low.low c.in_ok-high.high c.in_ok-low.ensures c.in_ok-high.ensures (sym c.if-is_range.ensures)
