use Rattle.std.proofs.Common.{◌≡◌, ℕ, ◌<◌, length, sym, refl, subst, ⊎_elim, arith}
use Rattle.analysis.specs.Reach.{alarms_at}
use Rattle.walker.specs.Table.{Marked}
use Rattle.walker.proofs.Marking.{marked_zero, marked_beyond, marked_faults}
use Rattle.walker.proofs.table.mark_faults.Goals as goal

pub returns-then-stmt-eq0 : goal.returns-then-stmt-eq0
returns-then-stmt-eq0 c ks h =
    ⊎_elim
    (λ (e : c.args.stmt ≡ 0). subst (λ (p : ℕ). Marked (alarms_at p ks) c.args.table.now c.args.table.now) (sym e) (marked_zero ks c.args.table.now))
    (λ (q : (c.args.stmt ≡ 0 → ⊥) × (length c.args.table.now < c.args.stmt)). marked_beyond c.args.stmt ks c.args.table.now q.1)
    c.then-stmt-eq0.either

pub returns : goal.returns
returns c ks h =
    marked_faults _ _ c.args.faults ks _ _ _ _ _ h (omega (arith, c.if-stmt-eq0.false)) refl
    c.mark.ensures c.mark-2.ensures c.mark-3.ensures c.mark-4.ensures
