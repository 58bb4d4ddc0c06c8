-- What the entry that calculates with intervals answers, case by case. Rests on the definitions alone.
use Rattle.std.proofs.Common.{◌≡◌, ℕ, ◌+◌, ◌≤◌, cond, List, [], ◌∷◌, length, drop, set, Some, None, Result, Ok, Err, IsErrAnd, refl, ap, ◌∙◌, arith}
use Rattle.std.proofs.lemmas.Bool.Decides.{nat_tests}
use Rattle.interval.specs.Interval.{interval}
use Rattle.interval.specs.Arithmetic.{EvalResult as PlainResult, interval_op}
use Rattle.interval.specs.Of.{as_intervals, Faulty, Says}
use Rattle.interval.specs.Entry.{fault_bits, ByIntervals, ReckonSays, refusal, refusal_number, Calculated, SpanSays}
use Rattle.interval.specs.declared.Refusal.{Refusal}
use Rattle.interval.specs.declared.Refusal.TheVariants.{Operation, Bounds, Room}
use Rattle.interval.specs.declared.Reply.{Reply}
use Rattle.interval.specs.declared.Reply.TheVariants.{Spread, Never, Refused}
use Rattle.interval.specs.declared.types.Interval.{Interval}
use Rattle.interval.specs.declared.types.Faults.{Faults}
use Rattle.interval.specs.declared.types.EvalResult.{EvalResult}

-- the bits of what the code has
bits_of : (f : Faults) (ks : List ℕ) (n : ℕ) → Faulty f ks → n ≡ cond f.overflow 1 0 + cond f.divisor 2 0 → n ≡ fault_bits ks
bits_of f ks n h e = rw (← h.overflow, ← h.divisor) e

-- two places written are the first two
two_set : (out : List ℕ) (x y : ℕ) → 2 ≤ length out → set (set out 0 x) 1 y ≡ x ∷ y ∷ drop 2 out
two_set [] x y h = absurd (omega arith)
two_set (v ∷ []) x y h = absurd (omega arith)
two_set (v ∷ u ∷ out) x y h = refl

-- the interval stands in the first two places
pub replies_value : (s : Interval) (r : EvalResult) (w : PlainResult) (out : List ℕ) (n : ℕ) → r.interval ≡ Some s → Says r w → 2 ≤ length out →
    n ≡ cond r.faults.overflow 1 0 + cond r.faults.divisor 2 0 → ReckonSays w out (Spread n) (set (set out 0 s.lo) 1 s.hi)
unfolding ReckonSays ByIntervals
replies_value s r w out n some h le e =
    rw (h.intervals ∙ ap as_intervals some)
    (ap (λ (k : ℕ). Spread k) (bits_of r.faults w.faults n h.faults e), two_set out s.lo s.hi le)

-- there is no interval, and the slice stays
pub replies_never : (r : EvalResult) (w : PlainResult) (out : List ℕ) (n : ℕ) → r.interval ≡ None → Says r w →
    n ≡ cond r.faults.overflow 1 0 + cond r.faults.divisor 2 0 → ReckonSays w out (Never n) out
unfolding ReckonSays ByIntervals
replies_never r w out n none h e =
    rw (h.intervals ∙ ap as_intervals none) (ap (λ (k : ℕ). Never k) (bits_of r.faults w.faults n h.faults e), refl)

-- not refused
pub says_result : (op a b c d : ℕ) (out : List ℕ) (r : Reply) (out₁ : List ℕ) → refusal op a b c d out ≡ 0 →
    ReckonSays (interval_op op (interval a b) (interval c d)) out r out₁ → SpanSays op a b c d out (refusal op a b c d out) r out₁
unfolding SpanSays
says_result op a b c d out r out₁ e h = rw e h

-- what is not refused has room for two
pub room : (op a b c d : ℕ) (out : List ℕ) → refusal op a b c d out ≡ 0 → 2 ≤ length out
unfolding refusal
room op a b c d out e = grind (arith, nat_tests)

-- bounds that are those of no interval, handed on by `?`
pub bounds_refused : (op a b c d k : ℕ) (r : Result EvalResult Refusal) (x : Refusal) → IsErrAnd r (λ e. e ≡ x) →
    ◌≡◌ {A = Result Interval Refusal} (Err x) (Err Bounds) → k ≡ 2 → Calculated op a b c d k r
bounds_refused op a b c d k (Ok y) x h same two = absurd h
bounds_refused op a b c d k (Err e) x h same two = let is : x ≡ Bounds = cc in rw (h, is) two

-- a refusal is told by its number
pub tells_refusal : (op a b c d : ℕ) (out : List ℕ) (e : Refusal) (n : ℕ) → refusal op a b c d out ≡ refusal_number e → n ≡ refusal_number e →
    SpanSays op a b c d out (refusal op a b c d out) (Refused n) out
unfolding SpanSays
tells_refusal op a b c d out Operation n is e = rw (is, e) (refl, refl)
tells_refusal op a b c d out Bounds n is e = rw (is, e) (refl, refl)
tells_refusal op a b c d out Room n is e = rw (is, e) (refl, refl)
