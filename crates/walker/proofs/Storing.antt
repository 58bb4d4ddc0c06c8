-- A store's index and value put together: each case of the two results.
use Rattle.std.proofs.Common.{◌≡◌, ℕ, Bool, true, false, cond, ltb, ltb-true, List, [], ◌∷◌, ◌++◌, Some, None, refl, sym, ap, ◌∙◌, subst, append-nil, arith, lt-ltb}
use Rattle.program.specs.Basics.{flat_map}
use Rattle.interval.specs.Interval.{Interval as PlainInterval}
use Rattle.interval.specs.Arithmetic.{EvalResult as PlainResult, eval_result, element_of}
use Rattle.interval.specs.declared.types.Interval.{Interval}
use Rattle.interval.specs.declared.types.EvalResult.{EvalResult}
use Rattle.interval.specs.Of.{as_interval, as_intervals, faults_or, after_faults, Says}
use Rattle.analysis.specs.Analyser.{index_in_range}
use Rattle.interval.proofs.Combining.{faulty_or, says_after}
use Rattle.walker.specs.Store.{if_index, store_result}

no_kinds : List ℕ
no_kinds = []

flat_none : (xs : List PlainInterval) → flat_map (λ (x : PlainInterval). no_kinds) xs ≡ no_kinds
unfolding no_kinds
flat_none [] = refl
flat_none (x ∷ xs) = flat_none xs

nothing_stored : (xs : List PlainInterval) → if_index xs [] ≡ []
nothing_stored [] = refl
nothing_stored (x ∷ xs) = refl

-- the index has no value
pub no_index : (n : ℕ) (x : EvalResult) (i v : PlainResult) → x.interval ≡ None → Says x i → Says x (store_result n i v)
unfolding no_kinds
no_index n x i v none h =
    rw (h.intervals ∙ ap as_intervals none, flat_none v.intervals, append-nil i.faults, append-nil i.faults)
    (record { intervals = sym (ap as_intervals none); faults = h.faults })

-- there is no value to store
pub no_value : (n : ℕ) (s : Interval) (x y : EvalResult) (i v : PlainResult) → x.interval ≡ Some s → y.interval ≡ None → Says x i → Says y v →
    Says (after_faults x.faults y) (store_result n i v)
no_value n s x y i v some none h k =
    rw (h.intervals ∙ ap as_intervals some, k.intervals ∙ ap as_intervals none, append-nil v.faults, append-nil (i.faults ++ v.faults))
    (record {
      intervals = nothing_stored (index_in_range n (as_interval s ∷ [])) ∙ sym (ap as_intervals none);
      faults = faulty_or x.faults y.faults i.faults v.faults h.faults k.faults;
    })

-- an element's look-up finds something if the index can be in range, and has the faults of a store
looked_up : (n : ℕ) (s : Interval) (t : PlainInterval) →
    element_of n t (as_interval s) ≡ eval_result (if_index (index_in_range n (as_interval s ∷ [])) (t ∷ [])) (cond (ltb s.hi n) [] (3 ∷ []))
looked_up n s t = by (ltb s.hi n) (ltb s.lo n) (λ e. let l = ltb-true s.hi n e in lt-ltb s.lo n (omega (arith, s.ordered))) where
  by : (a b : Bool) → (a ≡ true → b ≡ true) →
      cond a (eval_result (t ∷ []) []) (cond b (eval_result (t ∷ []) (3 ∷ [])) (eval_result [] (3 ∷ [])))
      ≡ eval_result (if_index (cond b (as_interval s ∷ []) []) (t ∷ [])) (cond a [] (3 ∷ []))
  by true true h = refl
  by true false h = let z : ◌≡◌ {A = ℕ} 0 1 = ap (λ (b : Bool). cond b 1 0) (h refl) in absurd (omega arith)
  by false true h = refl
  by false false h = refl

-- the index and the value have values
pub element_stored : (n : ℕ) (s t : Interval) (x y r : EvalResult) (i v : PlainResult) → x.interval ≡ Some s → y.interval ≡ Some t → Says x i → Says y v →
    Says r (element_of n (as_interval t) (as_interval s)) → Says (after_faults (faults_or x.faults y.faults) r) (store_result n i v)
element_stored n s t x y r i v some_x some_y h k e =
    let faults : List ℕ = cond (ltb s.hi n) [] (3 ∷ []) in
    rw (h.intervals ∙ ap as_intervals some_x, k.intervals ∙ ap as_intervals some_y, append-nil v.faults, append-nil faults, append-nil faults)
    (says_after (faults_or x.faults y.faults) (i.faults ++ v.faults) r
    (eval_result (if_index (index_in_range n (as_interval s ∷ [])) (as_interval t ∷ [])) faults)
    (faulty_or x.faults y.faults i.faults v.faults h.faults k.faults) (subst (λ (w : PlainResult). Says r w) (looked_up n s (as_interval t)) e))
