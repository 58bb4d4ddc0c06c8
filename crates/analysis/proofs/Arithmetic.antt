-- Arithmetic on intervals against arithmetic on numbers: what an operation comes to lies in its interval or is among its faults.
-- All that is known of the operations and of 2^32 stands here. Rests on the laws of quotients, remainders and products alone.
use Rattle.std.proofs.Common.{◌≡◌, ℕ, ◌+◌, ◌-◌, ◌*◌, ◌/◌, ◌%◌, ◌<◌, ◌≤◌, Bool, true, false, cond, eqb, ltb, List, [], ◌∷◌, mod-lt, mod-eq_of_lt, mul-le-mul, mul-le-mul_left, le-div_iff_mul-le, div-le_self, div-mul-le_self, arith}
use native.Mathlib.Nat.{mod-le}
use Rattle.std.proofs.lemmas.Bool.Decides.{nat_tests}
use Rattle.program.specs.Basics.{any}
use Rattle.program.specs.Semantics.{Evaluated, value, failed, in_range, apply_op}
use Rattle.interval.specs.Interval.{Interval, interval}
use Rattle.interval.specs.Arithmetic.{EvalResult, capped, difference, quotient, remainder, divided, interval_op}
use Rattle.analysis.proofs.Relations.{Lies, All, Proper}

-- the kind is among these
abbrev pub Among : ℕ → List ℕ → Type 0
Among k ks = any (eqb k) ks ≡ true

-- the number lies in the first of the intervals
abbrev pub InFirst : ℕ → List Interval → Type 0
InFirst v [] = ⊥
InFirst v (s ∷ ss) = Lies v s

-- a value lies in the result's interval, and a fault is among its faults
abbrev pub Fit : EvalResult → Evaluated → Type 0
Fit w (value v) = InFirst v w.intervals
Fit w (failed k) = Among k w.faults

div_mono : (a b c d : ℕ) → a ≤ b → 0 < c → c ≤ d → a / d ≤ b / c
div_mono a b c d l z h = (le-div_iff_mul-le {k = c} {x = a / d} {y = b} z).1 (omega (arith, mul-le-mul_left (a / d) h, div-mul-le_self a d))

-- a number between two bounds, capped
pub capped_fits : (a b n : ℕ) → a ≤ n → n ≤ b → Fit (capped a b) (in_range n)
capped_fits a b n l h = grind (arith, nat_tests)

difference_fits : (a b : Interval) (n m : ℕ) → Lies n a → Lies m b → Fit (difference a b) (cond (ltb n m) (failed 1) (value (n - m)))
difference_fits a b n m l h = grind (arith, nat_tests)

quotient_fits : (a b : Interval) (n m : ℕ) → Lies n a → Lies m b → Fit (divided quotient a b) (cond (eqb m 0) (failed 2) (value (n / m)))
quotient_fits a b n m l h = grind (arith, nat_tests, div_mono)

remainder_fits : (a b : Interval) (n m : ℕ) → Lies n a → Lies m b → Fit (divided remainder a b) (cond (eqb m 0) (failed 2) (value (n % m)))
remainder_fits a b n m l h = grind (arith, nat_tests, mod-lt n {m = m}, mod-le n m, mod-eq_of_lt {n = n} {m = m})

-- both tests below choose alike
by_kind : (p q r t : Bool) (a b : Interval) (n m : ℕ) → Lies n a → Lies m b →
    Fit (cond p (capped (a.lo + b.lo) (a.hi + b.hi)) (cond q (difference a b) (cond r (capped (a.lo * b.lo) (a.hi * b.hi)) (cond t (divided quotient a b) (divided remainder a b)))))
    (cond p (in_range (n + m)) (cond q (cond (ltb n m) (failed 1) (value (n - m))) (cond r (in_range (n * m)) (cond (eqb m 0) (failed 2) (cond t (value (n / m)) (value (n % m)))))))
by_kind true q r t a b n m l h = capped_fits (a.lo + b.lo) (a.hi + b.hi) (n + m) (omega arith) (omega arith)
by_kind false true r t a b n m l h = difference_fits a b n m l h
by_kind false false true t a b n m l h = capped_fits (a.lo * b.lo) (a.hi * b.hi) (n * m) (mul-le-mul l.0 h.0) (mul-le-mul l.1 h.1)
by_kind false false false true a b n m l h = quotient_fits a b n m l h
by_kind false false false false a b n m l h = remainder_fits a b n m l h

-- an operation on numbers fits the operation on intervals that they lie in
pub op_fits : (k : ℕ) (a b : Interval) (n m : ℕ) → Lies n a → Lies m b → Fit (interval_op k a b) (apply_op k n m)
op_fits k a b n m l h = by_kind (eqb k 0) (eqb k 1) (eqb k 2) (eqb k 3) a b n m l h

-- capped intervals are proper
pub capped_proper : (a b : ℕ) → a ≤ b → All Proper (capped a b).intervals
capped_proper a b l = grind (arith, nat_tests)

difference_proper : (a b : Interval) → Proper a → Proper b → All Proper (difference a b).intervals
difference_proper a b p q = grind (arith, nat_tests)

quotient_proper : (a b : Interval) → Proper a → Proper b → All Proper (divided quotient a b).intervals
quotient_proper a b p q = grind (arith, nat_tests, div_mono, div-le_self)

remainder_proper : (a b : Interval) → Proper a → Proper b → All Proper (divided remainder a b).intervals
remainder_proper a b p q = grind (arith, nat_tests)

proper_by_kind : (p q r t : Bool) (a b : Interval) → Proper a → Proper b →
    All Proper (cond p (capped (a.lo + b.lo) (a.hi + b.hi)) (cond q (difference a b) (cond r (capped (a.lo * b.lo) (a.hi * b.hi)) (cond t (divided quotient a b) (divided remainder a b))))).intervals
proper_by_kind true q r t a b g h = capped_proper (a.lo + b.lo) (a.hi + b.hi) (omega arith)
proper_by_kind false true r t a b g h = difference_proper a b g h
proper_by_kind false false true t a b g h = capped_proper (a.lo * b.lo) (a.hi * b.hi) (mul-le-mul g.0 h.0)
proper_by_kind false false false true a b g h = quotient_proper a b g h
proper_by_kind false false false false a b g h = remainder_proper a b g h

-- an operation on proper intervals gives proper ones
pub op_proper : (k : ℕ) (a b : Interval) → Proper a → Proper b → All Proper (interval_op k a b).intervals
op_proper k a b p q = proper_by_kind (eqb k 0) (eqb k 1) (eqb k 2) (eqb k 3) a b p q

-- 0 to 0 is proper
pub zero_proper : Proper (interval 0 0)
zero_proper = (omega arith, omega arith)
