use Rattle.std.proofs.Common.{◌≡◌, ◌+◌, Bool, sym, ap, ◌∙◌, arith}
use Rattle.std.proofs.lemmas.Result.{err_from_is_err_and}
use Rattle.program.specs.Semantics.{value, truth}
use Rattle.encoding.proofs.Lengths.{test_long}
use Rattle.encoding.proofs.Parts.{test_within, test_below, less_at, equal_at, not_at, and_at, or_at}
use Rattle.runner.proofs.ReadyParts.{less_ready, equal_ready, inner_ready, and_ready, or_ready, test_moved}
use Rattle.runner.proofs.Tests.{tests_as, less_fails, less_holds, equal_fails, equal_holds, not_fails, not_holds, and_fails, and_stops, and_goes, or_fails, or_stops, or_goes}
use Rattle.runner.proofs.condition.+test_at.Goals as goal

pub returns-then-left-eq0 : goal.returns-then-left-eq0
returns-then-left-eq0 t c ins x ready = absurd (omega (arith, test_long x, ready.placed.enough))

pub returns-in_default : goal.returns-in_default
returns-in_default t c ins x ready = absurd (omega (arith, test_below _ _ x ready.placed.stands, c.byte_at.ensures))

-- comparisons

pub returns-in_err-pair_at-in-0 : goal.returns-in_err-pair_at-in-0
returns-in_err-pair_at-in-0 t c ins x ready =
    let h = less_at _ _ x ready.placed.stands (sym c.byte_at.ensures ∙ c.in-0.is) in
    let next : c.saturating_add-next.result ≡ c.args.pos + 1 = omega (arith, test_within _ _ x ready.placed.stands, h.long, c.saturating_add-next.ensures) in
    let two = less_ready _ _ _ x ready h _ next in
    let p = err_from_is_err_and c.from_residual.result c.from_residual.ensures.1 in
    rw (p.1, p.2) (less_fails _ _ _ x h _ (c.in_err-pair_at-in-0.ensures ins h.a h.b two.0 two.1))

pub returns-in_ok-pair_at-in-0 : goal.returns-in_ok-pair_at-in-0
returns-in_ok-pair_at-in-0 t c ins x ready =
    let h = less_at _ _ x ready.placed.stands (sym c.byte_at.ensures ∙ c.in-0.is) in
    let next : c.saturating_add-next.result ≡ c.args.pos + 1 = omega (arith, test_within _ _ x ready.placed.stands, h.long, c.saturating_add-next.ensures) in
    let two = less_ready _ _ _ x ready h _ next in
    let v = c.in_ok-pair_at-in-0.ensures ins h.a h.b two.0 two.1 in
    record { is = less_holds _ _ _ x h _ _ v.first_is v.second_is ∙ ap (λ (b : Bool). value (truth b)) (sym c.less.ensures.holds); end = omega (arith, c.less.ensures.end, v.end, next, h.long) }

pub returns-in_err-pair_at-in-1 : goal.returns-in_err-pair_at-in-1
returns-in_err-pair_at-in-1 t c ins x ready =
    let h = equal_at _ _ x ready.placed.stands (sym c.byte_at.ensures ∙ c.in-1.is) in
    let next : c.saturating_add-next.result ≡ c.args.pos + 1 = omega (arith, test_within _ _ x ready.placed.stands, h.long, c.saturating_add-next.ensures) in
    let two = equal_ready _ _ _ x ready h _ next in
    let p = err_from_is_err_and c.from_residual-in_err-pair_at-in-1.result c.from_residual-in_err-pair_at-in-1.ensures.1 in
    rw (p.1, p.2) (equal_fails _ _ _ x h _ (c.in_err-pair_at-in-1.ensures ins h.a h.b two.0 two.1))

pub returns-in_ok-pair_at-in-1 : goal.returns-in_ok-pair_at-in-1
returns-in_ok-pair_at-in-1 t c ins x ready =
    let h = equal_at _ _ x ready.placed.stands (sym c.byte_at.ensures ∙ c.in-1.is) in
    let next : c.saturating_add-next.result ≡ c.args.pos + 1 = omega (arith, test_within _ _ x ready.placed.stands, h.long, c.saturating_add-next.ensures) in
    let two = equal_ready _ _ _ x ready h _ next in
    let v = c.in_ok-pair_at-in-1.ensures ins h.a h.b two.0 two.1 in
    record { is = equal_holds _ _ _ x h _ _ v.first_is v.second_is ∙ ap (λ (b : Bool). value (truth b)) (sym c.equal.ensures.holds); end = omega (arith, c.equal.ensures.end, v.end, next, h.long) }

-- not

pub returns-in_err-test_at-in-2 : goal.returns-in_err-test_at-in-2
returns-in_err-test_at-in-2 t c ins x ready =
    let h = not_at _ _ x ready.placed.stands (sym c.byte_at.ensures ∙ c.in-2.is) in
    let next : c.saturating_add-next.result ≡ c.args.pos + 1 = omega (arith, test_within _ _ x ready.placed.stands, h.long, c.saturating_add-next.ensures) in
    let p = err_from_is_err_and c.from_residual-in_err-test_at-in-2.result c.from_residual-in_err-test_at-in-2.ensures.1 in
    rw (p.1, p.2) (not_fails _ _ _ x h _ (c.in_err-test_at-in-2.ensures ins h.t (inner_ready _ _ _ x ready h _ next)))

pub returns-in_ok-test_at-in-2 : goal.returns-in_ok-test_at-in-2
returns-in_ok-test_at-in-2 t c ins x ready =
    let h = not_at _ _ x ready.placed.stands (sym c.byte_at.ensures ∙ c.in-2.is) in
    let next : c.saturating_add-next.result ≡ c.args.pos + 1 = omega (arith, test_within _ _ x ready.placed.stands, h.long, c.saturating_add-next.ensures) in
    let v = c.in_ok-test_at-in-2.ensures ins h.t (inner_ready _ _ _ x ready h _ next) in
    record { is = not_holds _ _ _ x h _ v.is ∙ ap (λ (b : Bool). value (truth b)) (sym c.negated.ensures.holds); end = omega (arith, c.negated.ensures.end, v.end, next, h.long) }

-- and

pub returns-in_err-first-in-3 : goal.returns-in_err-first-in-3
returns-in_err-first-in-3 t c ins x ready =
    let h = and_at _ _ x ready.placed.stands (sym c.byte_at.ensures ∙ c.in-3.is) in
    let next : c.saturating_add-next.result ≡ c.args.pos + 1 = omega (arith, test_within _ _ x ready.placed.stands, h.long, c.saturating_add-next.ensures) in
    let two = and_ready _ _ _ x ready h _ next in
    let p = err_from_is_err_and c.from_residual-in_err-first-in-3.result c.from_residual-in_err-first-in-3.ensures.1 in
    rw (p.1, p.2) (and_fails _ _ _ x h _ (c.in_err-first-in-3.ensures ins h.t two.0))

pub returns-then-first : goal.returns-then-first
returns-then-first t c ins x ready =
    let h = and_at _ _ x ready.placed.stands (sym c.byte_at.ensures ∙ c.in-3.is) in
    let next : c.saturating_add-next.result ≡ c.args.pos + 1 = omega (arith, test_within _ _ x ready.placed.stands, h.long, c.saturating_add-next.ensures) in
    let two = and_ready _ _ _ x ready h _ next in
    let v = c.in_ok-first-in-3.ensures ins h.t two.0 in
    tests_as _ _ _ _ _ (omega (arith, v.end, next, h.long)) (sym (and_goes _ _ _ x h _ c.if-first.true v.is))
    (c.test_at-then-first.ensures ins h.u (test_moved _ _ _ _ two.1 _ v.end))

pub returns-else-first : goal.returns-else-first
returns-else-first t c ins x ready =
    let h = and_at _ _ x ready.placed.stands (sym c.byte_at.ensures ∙ c.in-3.is) in
    let next : c.saturating_add-next.result ≡ c.args.pos + 1 = omega (arith, test_within _ _ x ready.placed.stands, h.long, c.saturating_add-next.ensures) in
    let two = and_ready _ _ _ x ready h _ next in
    let v = c.in_ok-first-in-3.ensures ins h.t two.0 in
    let u = c.decided.ensures.end h.u (test_moved _ _ _ _ two.1 _ v.end).placed in
    record { is = and_stops _ _ _ x h _ c.if-first.false v.is ∙ ap (λ (b : Bool). value (truth b)) (sym (c.decided.ensures.holds ∙ c.if-first.false)); end = omega (arith, u, v.end, next, h.long) }

-- or

pub returns-in_err-first-in-4 : goal.returns-in_err-first-in-4
returns-in_err-first-in-4 t c ins x ready =
    let h = or_at _ _ x ready.placed.stands (sym c.byte_at.ensures ∙ c.in-4.is) in
    let next : c.saturating_add-next.result ≡ c.args.pos + 1 = omega (arith, test_within _ _ x ready.placed.stands, h.long, c.saturating_add-next.ensures) in
    let two = or_ready _ _ _ x ready h _ next in
    let p = err_from_is_err_and c.from_residual-in_err-first-in-4.result c.from_residual-in_err-first-in-4.ensures.1 in
    rw (p.1, p.2) (or_fails _ _ _ x h _ (c.in_err-first-in-4.ensures ins h.t two.0))

pub returns-then-first-2 : goal.returns-then-first-2
returns-then-first-2 t c ins x ready =
    let h = or_at _ _ x ready.placed.stands (sym c.byte_at.ensures ∙ c.in-4.is) in
    let next : c.saturating_add-next.result ≡ c.args.pos + 1 = omega (arith, test_within _ _ x ready.placed.stands, h.long, c.saturating_add-next.ensures) in
    let two = or_ready _ _ _ x ready h _ next in
    let v = c.in_ok-first-in-4.ensures ins h.t two.0 in
    let u = c.decided-then-first-2.ensures.end h.u (test_moved _ _ _ _ two.1 _ v.end).placed in
    record { is = or_stops _ _ _ x h _ c.if-first-2.true v.is ∙ ap (λ (b : Bool). value (truth b)) (sym (c.decided-then-first-2.ensures.holds ∙ c.if-first-2.true)); end = omega (arith, u, v.end, next, h.long) }

pub returns-else-first-2 : goal.returns-else-first-2
returns-else-first-2 t c ins x ready =
    let h = or_at _ _ x ready.placed.stands (sym c.byte_at.ensures ∙ c.in-4.is) in
    let next : c.saturating_add-next.result ≡ c.args.pos + 1 = omega (arith, test_within _ _ x ready.placed.stands, h.long, c.saturating_add-next.ensures) in
    let two = or_ready _ _ _ x ready h _ next in
    let v = c.in_ok-first-in-4.ensures ins h.t two.0 in
    tests_as _ _ _ _ _ (omega (arith, v.end, next, h.long)) (sym (or_goes _ _ _ x h _ c.if-first-2.false v.is))
    (c.test_at-in-4-2.ensures ins h.u (test_moved _ _ _ _ two.1 _ v.end))
