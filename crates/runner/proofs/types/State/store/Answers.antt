use Rattle.std.proofs.Common.{◌≡◌, vec_items, vec_len, refl, arith}
use Rattle.std.specs.Vec.{with_item}
use Rattle.std.proofs.lemmas.Result.{err_from_is_err_and}
use Rattle.program.specs.declared.fault.Fault.TheVariants.{Index}
use Rattle.runner.specs.Of.{as_state}
use Rattle.runner.proofs.Arrays.{not_there, no_array, short_array, stored_none, stored_some}
use Rattle.runner.proofs.types.State.store.Goals as goal

pub returns-in_err-row : goal.returns-in_err-row
returns-in_err-row c ins =
    let s = as_state ins c.args.self.now in
    let e = c.in_err-row.ensures.ok_part in
    let v = rw e at c.in_err-row.ensures.value in
    let is : c.in_err-row.field-0.0 ≡ Index = cc in
    let past = not_there _ c.args.r (vec_len c.args.self.now.arrays) e c.get_mut.ensures.variant.1 in
    let p = err_from_is_err_and c.from_residual.result c.from_residual.ensures.1 in
    rw (p.1, p.2) (stored_none s s c.args.r c.args.i c.args.n _
    (no_array vec_items s (vec_items c.args.self.now.arrays) c.args.r c.args.i refl (omega (arith, past, c.args.self.now.arrays.ok.0))) is)

pub returns-in_err-element : goal.returns-in_err-element
returns-in_err-element c ins =
    let s = as_state ins c.args.self.now in
    let row = c.in_ok-row.row.now in
    let f = c.in_ok-row.ensures.ok_part in
    let at = rw f at c.get_mut.ensures.value in
    let within = rw f at c.get_mut.ensures.variant in
    let e = c.in_err-element.ensures.ok_part in
    let v = rw e at c.in_err-element.ensures.value in
    let is : c.in_err-element.field-0.0 ≡ Index = cc in
    let past = not_there _ c.args.i (vec_len row) e c.get_mut-2.ensures.variant.1 in
    let p = err_from_is_err_and c.from_residual-in_err-element.result c.from_residual-in_err-element.ensures.1 in
    rw (p.1, p.2) (stored_none s s c.args.r c.args.i c.args.n _
    (short_array vec_items s (vec_items c.args.self.now.arrays) c.args.r c.args.i row refl (omega (arith, within.0 refl, c.args.self.now.arrays.ok.0)) at
    (omega (arith, past, row.ok.0))) is)

pub returns : goal.returns
returns c ins =
    let row = c.in_ok-row.row.now in
    let f = c.in_ok-row.ensures.ok_part in
    let at = rw f at c.get_mut.ensures.value in
    let within = rw f at c.get_mut.ensures.variant in
    let inside = rw c.in_ok-element.ensures.ok_part at c.get_mut-2.ensures.variant in
    stored_some vec_items _ (vec_items c.args.self.now.arrays) _ c.args.r c.args.i c.args.n row (with_item row c.args.i c.args.n)
    (omega (arith, within.0 refl, c.args.self.now.arrays.ok.0)) at (omega (arith, inside.0 refl, row.ok.0)) refl
