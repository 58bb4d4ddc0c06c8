-- The header, part by part.
use Rattle.std.proofs.Common.{sym, refl}
use Rattle.reader.proofs.Headers.{no_vars, no_count, not_allowed, no_lengths, no_body, not_all, header_read}
use Rattle.reader.proofs.load.read.read_header.Goals as goal

pub returns-in_err-vars : goal.returns-in_err-vars
returns-in_err-vars c = rw c.from_residual.ensures (no_vars c.args.text.now c.in_err-vars.ensures)

pub returns-in_err-arrays : goal.returns-in_err-arrays
returns-in_err-arrays c = rw c.from_residual-in_err-arrays.ensures (no_count c.args.text.now c.in_err-arrays.ensures)

pub returns-then-not-are_allowed : goal.returns-then-not-are_allowed
returns-then-not-are_allowed c =
    not_allowed c.args.text.now _ c.in_ok-arrays.arrays c.in_ok-vars.ensures c.in_ok-arrays.ensures (sym c.if-not-are_allowed.ensures)

pub returns-in_err-lengths : goal.returns-in_err-lengths
returns-in_err-lengths c =
    rw c.from_residual-in_err-lengths.ensures
    (no_lengths c.args.text.now _ c.in_ok-arrays.arrays c.in_ok-vars.ensures c.in_ok-arrays.ensures c.in_err-lengths.ensures)

pub returns-in_err-last : goal.returns-in_err-last
returns-in_err-last c =
    rw c.from_residual-in_err-last.ensures
    (no_body c.args.text.now _ c.in_ok-arrays.arrays c.in_ok-vars.ensures c.in_ok-arrays.ensures c.in_err-last.ensures)

pub returns-then-last-text : goal.returns-then-last-text
returns-then-last-text c =
    not_all c.args.text.now _ c.in_ok-arrays.arrays c.in_ok-vars.ensures c.in_ok-arrays.ensures c.in_ok-last.last c.in_ok-last.ensures c.if-last-text.true

pub returns : goal.returns
returns c =
    header_read c.args.text.now _ c.in_ok-arrays.arrays c.in_ok-vars.ensures c.in_ok-arrays.ensures c.in_ok-lengths.lengths c.in_ok-last.last
    c.requires (sym c.if-not-are_allowed.ensures) c.in_ok-lengths.ensures c.in_ok-last.ensures c.if-last-text.false _ refl refl refl refl
