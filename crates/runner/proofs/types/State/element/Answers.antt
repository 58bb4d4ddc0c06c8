use Rattle.std.proofs.Common.{◌≡◌, ℕ, length, Bor, Option, vec_items, refl, ap, sym, ◌∙◌, arith}
use Rattle.std.specs.Option.{ok_or}
use Rattle.std.proofs.lemmas.Result.{err_from_is_err_and}
use Rattle.program.specs.declared.fault.Fault.TheVariants.{Index}
use Rattle.runner.specs.Of.{as_state}
use Rattle.runner.proofs.Arrays.{nth_at, no_array, element_none, element_looked}
use Rattle.runner.proofs.types.State.element.Goals as goal

pub returns-in_err-row : goal.returns-in_err-row
returns-in_err-row c ins =
    let s = as_state ins c.args.self.now in
    let e = c.in_err-row.ensures.ok_part in
    let v = rw e at c.in_err-row.ensures.value in
    let is : c.in_err-row.field-0.0 ≡ Index = cc in
    let past = rw e at c.get.ensures.lookup.3 in
    let p = err_from_is_err_and c.from_residual.result c.from_residual.ensures.1 in
    rw (p.1, p.2, is) (element_none s c.args.r c.args.i
    (no_array vec_items s (vec_items c.args.self.now.arrays) c.args.r c.args.i refl (omega (arith, past, ap length c.deref.ensures.value))))

pub returns : goal.returns
returns c ins =
    let e = c.in_ok-row.ensures.ok_part in
    let at = rw (e, c.deref.ensures.value) at c.get.ensures.lookup in
    element_looked (λ (x : Bor ℕ). x.now) c.get-2.result (as_state ins c.args.self.now) c.args.r c.args.i c.deref-2.result.now c.ok_or-2.result
    (nth_at vec_items (vec_items c.args.self.now.arrays) c.args.r c.in_ok-row.row.now at.3.0 at.1 ∙ sym c.deref-2.ensures.value)
    c.get-2.ensures.lookup.0 c.get-2.ensures.lookup.1 (c.ok_or-2.ensures.value ∙ ap (λ (o : Option ℕ). ok_or o Index) c.copied.ensures)
