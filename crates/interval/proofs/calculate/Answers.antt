-- Each refusal by the test that fails, and the result when none does.
use Rattle.std.proofs.Common.{arith}
use Rattle.std.proofs.lemmas.Bool.Decides.{nat_tests}
use Rattle.interval.specs.Entry.{refusal}
use Rattle.interval.proofs.Reckoning.{bounds_refused}
use Rattle.interval.proofs.calculate.Goals as goal

pub returns-then-op-ge-OPERATORS : goal.returns-then-op-ge-OPERATORS
unfolding refusal
returns-then-op-ge-OPERATORS c = grind (arith, nat_tests)

pub returns-in_err-s : goal.returns-in_err-s
unfolding refusal
returns-in_err-s c =
    let no = rw c.in_err-s.ensures.ok_part at c.new.ensures in
    bounds_refused c.args.op c.args.first.0 c.args.first.1 c.args.second.0 c.args.second.1 _ c.from_residual.result _ c.from_residual.ensures.1
    (rw c.in_err-s.ensures.ok_part at c.in_err-s.ensures.value) (grind (arith, nat_tests))

pub returns-in_err-t : goal.returns-in_err-t
unfolding refusal
returns-in_err-t c =
    let s = rw c.in_ok-s.ensures.ok_part at c.new.ensures in
    let no = rw c.in_err-t.ensures.ok_part at c.new-2.ensures in
    bounds_refused c.args.op c.args.first.0 c.args.first.1 c.args.second.0 c.args.second.1 _ c.from_residual-in_err-t.result _ c.from_residual-in_err-t.ensures.1
    (rw c.in_err-t.ensures.ok_part at c.in_err-t.ensures.value) (grind (arith, nat_tests))

pub returns-then-out-lt-PLACES : goal.returns-then-out-lt-PLACES
unfolding refusal
returns-then-out-lt-PLACES c =
    let s = rw c.in_ok-s.ensures.ok_part at c.new.ensures in
    let t = rw c.in_ok-t.ensures.ok_part at c.new-2.ensures in
    grind (arith, nat_tests)

pub returns : goal.returns
unfolding refusal
returns c =
    let s = rw c.in_ok-s.ensures.ok_part at c.new.ensures in
    let t = rw c.in_ok-t.ensures.ok_part at c.new-2.ensures in
    (grind (arith, nat_tests), rw (← s.0, ← s.1, ← t.0, ← t.1) (c.apply.ensures.number c.args.op (λ o e. e)))
