use Rattle.std.proofs.Common.{◌≡◌, ℕ, List, [], length, vec_items, Option, ap, subst, arith}
use Rattle.program.specs.Syntax.{Program}
use Rattle.session.specs.declared.rows.Row.{Row}
use Rattle.findings.specs.Ends.{AllEnds}
use Rattle.findings.proofs.Shows.{ends_more}
use Rattle.findings.proofs.ends_of.Goals as goal

-- at first there are no rows
no_ends : (p : Program) (rows : List (Option Row)) → rows ≡ [] → AllEnds p 0 rows
no_ends p rows e = record { count = ap length e; each = λ x l. absurd (omega arith) }

pub loop-x-init : goal.loop-x-init
loop-x-init c p st v = (st, no_ends p _ c.new-ends.ensures.items)

pub loop-x-preserved : goal.loop-x-preserved
loop-x-preserved c p st v =
    let h = c.loop-x.invariant p st v in
    let g = c.in_ok-row.ensures p h.0 (omega (arith, c.loop-x-test.true)) in
    (g.0, ends_more p c.loop-x.x (vec_items c.loop-x.ends) (vec_items c.push.new.self) c.in_ok-row.row h.1 g.1 c.in_ok-push.ensures.items)

pub returns : goal.returns
returns c p st v =
    let e : c.loop-x.x ≡ c.args.vars = omega (arith, c.loop-x-test.false, c.loop-x.auto.x-end) in
    subst (λ (n : ℕ). AllEnds p n (vec_items c.loop-x.ends)) e (c.loop-x.invariant p st v).1
