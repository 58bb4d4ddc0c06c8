-- Operators and the numbers of their operations. Rests on the definitions alone.
use Rattle.std.proofs.Common.{◌≡◌, ℕ, zero, suc, List, [], ◌∷◌, refl, ap, arith}
use Rattle.std.proofs.lemmas.Bool.Decides.{nat_tests}
use Rattle.program.specs.Kinds.{operator_code, operator_of}
use Rattle.interval.specs.Interval.{Interval}
use Rattle.interval.specs.Arithmetic.{EvalResult, interval_op, with_faults, if_one, if_two, combined}

-- the operation with a number is that of the operator with this number
pub operation_of : (k : ℕ) (a b : Interval) → interval_op k a b ≡ interval_op (operator_code (operator_of k)) a b
operation_of zero a b = refl
operation_of (suc zero) a b = refl
operation_of (suc (suc zero)) a b = refl
operation_of (suc (suc (suc zero))) a b = refl
operation_of (suc (suc (suc (suc k)))) a b = grind (arith, nat_tests)

-- so it is between two results
pub combined_of : (k : ℕ) (v w : EvalResult) → combined k v w ≡ combined (operator_code (operator_of k)) v w
unfolding if_one if_two
combined_of k v w = by v.intervals w.intervals where
  by : (ss ts : List Interval) →
      with_faults v.faults (if_one ss (λ s. with_faults w.faults (if_two ss ts (interval_op k))))
      ≡ with_faults v.faults (if_one ss (λ s. with_faults w.faults (if_two ss ts (interval_op (operator_code (operator_of k))))))
  by [] ts = refl
  by (s ∷ ss) [] = refl
  by (s ∷ ss) (t ∷ ts) = ap (λ (r : EvalResult). with_faults v.faults (with_faults w.faults r)) (operation_of k s t)
