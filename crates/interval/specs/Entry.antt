-- What the entry that calculates with intervals answers. Assumes nothing: these are definitions.
use Rattle.std.specs.Prelude.{◌≡◌, ℕ, zero, suc, ◌+◌, cond, ◌&&◌, List, [], ◌∷◌, length, drop, nat_eq, nat_le, nat_lt, Result, Ok, Err}
use Rattle.program.specs.Basics.{any, limit}
use Rattle.interval.specs.Interval.{Interval, interval}
use Rattle.interval.specs.Arithmetic.{EvalResult as PlainResult, interval_op}
use Rattle.interval.specs.declared.types.EvalResult.{EvalResult}
use Rattle.interval.specs.Of.{Says}
use Rattle.interval.specs.declared.Refusal.{Refusal}
use Rattle.interval.specs.declared.Refusal.TheVariants.{Operation, Bounds, Room}
use Rattle.interval.specs.declared.Reply.{Reply}
use Rattle.interval.specs.declared.Reply.TheVariants.{Spread, Never, Refused}

-- the smaller of two counts
abbrev pub smaller_of : ℕ → ℕ → ℕ
smaller_of a b = cond (nat_lt a b) a b

-- the kinds of faults as one number: 1 and 2, as bits 0 and 1
abbrev pub fault_bits : List ℕ → ℕ
fault_bits ks = cond (any (nat_eq 1) ks) 1 0 + cond (any (nat_eq 2) ks) 2 0

-- in the lent slice from where, to where, and the kinds; or the kinds alone
unfoldable pub ByIntervals : List Interval → ℕ → List ℕ → Reply → List ℕ → Type 0
ByIntervals [] k o s o₁ = (s ≡ Never k) × (o₁ ≡ o)
ByIntervals (x ∷ xs) k o s o₁ = (s ≡ Spread k) × (o₁ ≡ x.lo ∷ x.hi ∷ drop 2 o)

-- the result is told so
unfoldable pub ReckonSays : PlainResult → (out : List ℕ) → Reply → (out₁ : List ℕ) → Type 0
ReckonSays w out r out₁ = ByIntervals w.intervals (fault_bits w.faults) out r out₁

-- refused with 1 if there is no such operation, 2 if an interval is not one, 3 if the lent slice is shorter than two
unfoldable pub refusal : (op a b c d : ℕ) → (out : List ℕ) → ℕ
refusal op a b c d out =
    cond (nat_lt op 5) (cond ((nat_le a b && nat_lt b limit) && (nat_le c d && nat_lt d limit)) (cond (nat_le 2 (length out)) 0 3) 2) 1

-- the number of a refusal
abbrev pub refusal_number : Refusal → ℕ
refusal_number Operation = 1
refusal_number Bounds = 2
refusal_number Room = 3

-- the operation on the intervals from a to b and from c to d, or why it is refused
abbrev pub Calculated : (op a b c d : ℕ) → (refusal : ℕ) → Result EvalResult Refusal → Type 0
Calculated op a b c d k (Ok r) = (k ≡ 0) × Says r (interval_op op (interval a b) (interval c d))
Calculated op a b c d k (Err e) = k ≡ refusal_number e

-- the operation on the intervals from a to b and from c to d, unless it is refused
unfoldable pub SpanSays : (op a b c d : ℕ) → (out : List ℕ) → (refusal : ℕ) → Reply → (out₁ : List ℕ) → Type 0
SpanSays op a b c d out zero r out₁ = ReckonSays (interval_op op (interval a b) (interval c d)) out r out₁
SpanSays op a b c d out (suc k) r out₁ = (r ≡ Refused (suc k)) × (out₁ ≡ out)
