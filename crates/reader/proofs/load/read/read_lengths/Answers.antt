-- The lengths, one by one.
use Rattle.std.proofs.Common.{◌≡◌, ℕ, sym, subst, arith}
use Rattle.reader.specs.Request.{LengthsAt}
use Rattle.reader.proofs.ArrayLengths.{lengths_none, lengths_more, lengths_past, lengths_wrong}
use Rattle.reader.proofs.load.read.read_lengths.Goals as goal

pub loop-i-init : goal.loop-i-init
loop-i-init c = lengths_none c.args.text.now c.args.pos

pub loop-i-preserved : goal.loop-i-preserved
loop-i-preserved c =
    lengths_more c.args.text.now c.args.pos c.loop-i.i c.loop-i.lengths c.in_ok-n.n c.loop-i.invariant (omega (arith, c.requires.0)) c.in_ok-n.ensures (sym c.if-not-is_length.ensures)

pub returns : goal.returns
returns c =
    let end : c.loop-i.i ≡ c.args.count = omega arith in
    subst (λ (k : ℕ). LengthsAt c.args.text.now c.args.pos k c.loop-i.lengths) end c.loop-i.invariant

pub returns-in_err-n : goal.returns-in_err-n
returns-in_err-n c = rw c.from_residual.ensures (lengths_past c.args.text.now c.args.pos c.loop-i.i c.args.count c.loop-i-test.true c.in_err-n.ensures)

pub returns-then-not-is_length : goal.returns-then-not-is_length
returns-then-not-is_length c =
    lengths_wrong c.args.text.now c.args.pos c.loop-i.i c.args.count c.in_ok-n.n c.loop-i-test.true c.in_ok-n.ensures (sym c.if-not-is_length.ensures)
