-- Each kind of test by its first byte: its parts are ready where they stand, and what they tell makes up the whole.
use Rattle.std.proofs.Common.{inl, inr, sym, arith}
use Rattle.encoding.proofs.Parts.{less_at, equal_at, not_at, and_at, or_at}
use Rattle.evaluate.proofs.ReadyParts.{no_test, test_first_small, less_ready, equal_ready, inner_ready, and_ready, or_ready}
use Rattle.evaluate.proofs.Tests.{split_same, split_not, split_and, split_or}
use Rattle.evaluate.proofs.test.+test_from.Goals as goal
use Rattle.evaluate.proofs.test.+test_from.Goals.{then-left-eq0-via-then-left-eq0, then-left-eq0-via-else-left-eq0+then-pos-code}

pub returns-then-left-eq0 : goal.returns-then-left-eq0
returns-then-left-eq0 m c t ready =
    absurd (elim c.then-left-eq0.branch [
      | then-left-eq0-via-then-left-eq0 w ↦ no_test _ _ _ t ready (inl w.if-left-eq0.true)
      | then-left-eq0-via-else-left-eq0+then-pos-code w ↦ no_test _ _ _ t ready (inr w.if-pos-code.true)
    ])

pub returns-in-0 : goal.returns-in-0
returns-in-0 m c t ready =
    let h = less_at _ _ t ready.stands c.in-0.is in
    let parts = less_ready _ _ _ t ready h in
    split_same _ _ _ t _ _ _ (sym h.is) (omega (arith, h.long)) (c.compare_at.ensures h.a h.b parts.0 parts.1)

pub returns-in-1 : goal.returns-in-1
returns-in-1 m c t ready =
    let h = equal_at _ _ t ready.stands c.in-1.is in
    let parts = equal_ready _ _ _ t ready h in
    split_same _ _ _ t _ _ _ (sym h.is) (omega (arith, h.long)) (c.compare_at-in-1.ensures h.a h.b parts.0 parts.1)

pub returns-in-2 : goal.returns-in-2
returns-in-2 m c t ready =
    let h = not_at _ _ t ready.stands c.in-2.is in
    let a = c.test_from.ensures h.t (inner_ready _ _ _ t ready h) in
    split_same _ _ _ t _ _ _ (sym h.is) (omega (arith, h.long)) (split_not _ _ h.t _ c.test_from.new.ways _ _ a c.swap.ensures.x_after c.swap.ensures.y_after)

pub returns-in-3 : goal.returns-in-3
returns-in-3 m c t ready =
    let h = and_at _ _ t ready.stands c.in-3.is in
    let parts = and_ready _ _ _ t ready h in
    let a = c.test_from-in-3.ensures h.t parts.0 in
    let b = c.test_from-in-3-2.ensures h.u (parts.1 _ a.end) in
    split_same _ _ _ t _ _ _ (sym h.is) (omega (arith, h.long, a.end))
    (split_and _ _ h.t h.u _ _ c.test_from-in-3.new.ways c.test_from-in-3-2.new.ways _ _ a b c.join.ensures c.or-ways.ensures)

pub returns-in-4 : goal.returns-in-4
returns-in-4 m c t ready =
    let h = or_at _ _ t ready.stands c.in-4.is in
    let parts = or_ready _ _ _ t ready h in
    let a = c.test_from-in-4.ensures h.t parts.0 in
    let b = c.test_from-in-4-2.ensures h.u (parts.1 _ a.end) in
    split_same _ _ _ t _ _ _ (sym h.is) (omega (arith, h.long, a.end))
    (split_or _ _ h.t h.u _ _ c.test_from-in-4.new.ways c.test_from-in-4-2.new.ways _ _ a b c.join-in-4.ensures c.or-ways-in-4.ensures)

pub returns-in_default : goal.returns-in_default
returns-in_default m c t ready = absurd (omega (arith, test_first_small _ _ _ t ready))
