use Rattle.std.proofs.Common.{◌≡◌, ℕ, Option, subst, ⊎_elim, arith}
use Rattle.scanner.specs.Bytes.{NumberRead}
use Rattle.session.proofs.Bytes.{alarm_read, bounds_read}
use Rattle.session.proofs.rows.read_row.Goals as goal

pub returns-then-n-eq9 : goal.returns-then-n-eq9
returns-then-n-eq9 c =
    let a = subst (λ (r : Option ℕ). NumberRead c.args.out.now 0 r) c.unwrap-first.ensures c.read_number.ensures in
    record { bytes = rw c.if-n-eq9.true (alarm_read c.args.out.now c.unwrap-first.result (omega arith) a.stands); words = c.unwrap-first.type_inv }

pub returns : goal.returns
returns c =
    let a = subst (λ (r : Option ℕ). NumberRead c.args.out.now 0 r) c.unwrap-first.ensures c.read_number.ensures in
    let b = subst (λ (r : Option ℕ). NumberRead c.args.out.now 8 r) c.unwrap.ensures c.read_number-2.ensures in
    let n : c.args.n ≡ 16 = ⊎_elim (λ (e : c.args.n ≡ 9). absurd (c.if-n-eq9.false e)) (λ (e : c.args.n ≡ 16). e) c.requires in
    record { bytes = rw n (bounds_read c.args.out.now c.unwrap-first.result c.unwrap.result a.stands b.stands); words = (c.unwrap-first.type_inv, c.unwrap.type_inv) }
