use Rattle.std.proofs.Common.{◌≡◌, ◌∙◌, arith}
use Rattle.std.proofs.lemmas.Result.{err_from_is_err_and}
use Rattle.runner.specs.declared.types.RunError.TheVariants.{NoProgram}
use Rattle.runner.proofs.Loading.{vars_are, lengths_counted, begins, begins_not}
use Rattle.runner.proofs.start.start.Goals as goal

pub returns-in_err-count : goal.returns-in_err-count
returns-in_err-count c =
    let e = c.in_err-count.ensures.ok_part in
    let v = rw e at c.in_err-count.ensures.value in
    let is : c.in_err-count.field-0.0 ≡ NoProgram = cc in
    let p = err_from_is_err_and c.from_residual.result c.from_residual.ensures.1 in
    rw (p.1, p.2, is) (record { starts = rw e at c.array_count.ensures; few = tt })

pub returns-in_err-arrays : goal.returns-in_err-arrays
returns-in_err-arrays c =
    let p = err_from_is_err_and c.from_residual-in_err-arrays.result c.from_residual-in_err-arrays.ensures.1 in
    let counted = rw c.in_ok-count.ensures.ok_part at c.array_count.ensures in
    rw (p.1, p.2) (record { starts = begins_not _ _ _ counted.1 c.in_err-arrays.ensures; few = tt })

pub returns : goal.returns
returns c =
    let counted = rw c.in_ok-count.ensures.ok_part at c.array_count.ensures in
    record {
      starts = λ p h.
          let z = c.in_ok-arrays.ensures.1 p.arrays (lengths_counted _ p h _ (counted.1 p h)) in
          record {
            state = λ ins. begins p _ _ ins c.byte_at.result (c.in_ok-values.ensures.items_if_clones_equal (λ y e. e)) (c.byte_at.ensures ∙ vars_are _ p h) z.elements;
            count_is = z.count_is;
          };
      few = omega (arith, c.in_ok-arrays.ensures.0, counted.0);
    }
