-- Results put together, in code and in the definitions. Rests on the definitions alone.
use Rattle.std.proofs.Common.{◌≡◌, ℕ, Bool, ◌||◌, eqb, List, [], ◌∷◌, ◌++◌, Some, None, sym, refl, ap, ◌∙◌, append-nil}
use mathlib.Core.Bool.{or_assoc}
use Rattle.program.specs.Basics.{any}
use Rattle.interval.specs.Interval.{Interval as PlainInterval}
use Rattle.interval.specs.Arithmetic.{EvalResult as PlainResult, interval_op, with_faults, if_one, if_two, element_of, combined, element_by}
use Rattle.interval.specs.Of.{as_interval, as_intervals, Faulty, faults_or, after_faults, Says}
use Rattle.interval.specs.declared.types.Interval.{Interval}
use Rattle.interval.specs.declared.types.Faults.{Faults}
use Rattle.interval.specs.declared.types.EvalResult.{EvalResult}

-- some element of two lists passes
pub any_append : {A : Type 0} (p : A → Bool) (xs ys : List A) → any p (xs ++ ys) ≡ any p xs || any p ys
any_append p [] ys = refl
any_append p (x ∷ xs) ys = ap (λ (b : Bool). p x || b) (any_append p xs ys) ∙ sym (or_assoc (p x) (any p xs) (any p ys))

-- the kinds of either are those of both lists
pub faulty_or : (f g : Faults) (ks js : List ℕ) → Faulty f ks → Faulty g js → Faulty (faults_or f g) (ks ++ js)
faulty_or f g ks js h e =
    record {
      overflow = rw (any_append (eqb 1) ks js) (cc);
      divisor = rw (any_append (eqb 2) ks js) (cc);
      index = rw (any_append (eqb 3) ks js) (cc);
      check = rw (any_append (eqb 4) ks js) (cc);
    }

-- faults that come first, in code and in the definitions
pub says_after : (f : Faults) (ks : List ℕ) (r : EvalResult) (w : PlainResult) → Faulty f ks → Says r w → Says (after_faults f r) (with_faults ks w)
says_after f ks r w h e = record { intervals = e.intervals; faults = faulty_or f r.faults ks w.faults h e.faults }

-- an operation on what the first cannot come to
pub combined_never : (k : ℕ) (a : EvalResult) (v w : PlainResult) → a.interval ≡ None → Says a v → Says a (combined k v w)
unfolding if_one
combined_never k a v w none h =
    rw (h.intervals ∙ ap as_intervals none, append-nil v.faults) (record { intervals = sym (ap as_intervals none); faults = h.faults })

-- an operation on what the second cannot come to
pub combined_no_second : (k : ℕ) (s : Interval) (a b : EvalResult) (v w : PlainResult) → a.interval ≡ Some s → b.interval ≡ None →
    Says a v → Says b w → Says (after_faults a.faults b) (combined k v w)
unfolding if_one if_two
combined_no_second k s a b v w some none h e =
    rw (h.intervals ∙ ap as_intervals some, e.intervals ∙ ap as_intervals none, append-nil w.faults)
    (record { intervals = sym (ap as_intervals none); faults = faulty_or a.faults b.faults v.faults w.faults h.faults e.faults })

-- an operation on what both can come to
pub combined_both : (k : ℕ) (s t : Interval) (a b r : EvalResult) (v w : PlainResult) → a.interval ≡ Some s → b.interval ≡ Some t →
    Says a v → Says b w → Says r (interval_op k (as_interval s) (as_interval t)) →
    Says (after_faults a.faults (after_faults b.faults r)) (combined k v w)
unfolding if_one if_two
combined_both k s t a b r v w some_a some_b h e x =
    rw (h.intervals ∙ ap as_intervals some_a, e.intervals ∙ ap as_intervals some_b)
    (says_after a.faults v.faults (after_faults b.faults r) (with_faults w.faults (interval_op k (as_interval s) (as_interval t))) h.faults
    (says_after b.faults w.faults r (interval_op k (as_interval s) (as_interval t)) e.faults x))

-- an element at what the index cannot come to
pub element_never : (n : ℕ) (r : PlainInterval) (i : EvalResult) (w : PlainResult) → i.interval ≡ None → Says i w → Says i (element_by n r w)
unfolding if_one
element_never n r i w none h =
    rw (h.intervals ∙ ap as_intervals none, append-nil w.faults) (record { intervals = sym (ap as_intervals none); faults = h.faults })

-- an element at what the index can come to
pub element_value : (n : ℕ) (r : PlainInterval) (s : Interval) (i x : EvalResult) (w : PlainResult) → i.interval ≡ Some s → Says i w →
    Says x (element_of n r (as_interval s)) → Says (after_faults i.faults x) (element_by n r w)
unfolding if_one
element_value n r s i x w some h e =
    rw (h.intervals ∙ ap as_intervals some) (says_after i.faults w.faults x (element_of n r (as_interval s)) h.faults e)
