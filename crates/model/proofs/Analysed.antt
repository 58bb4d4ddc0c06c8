-- What the code's analysis leaves is what a program's memory holds: states of 64 variables and 16 arrays, thresholds in any order, a table of marks.
use Rattle.std.proofs.Common.{◌≡◌, ℕ, zero, suc, ◌+◌, ◌-◌, ◌<◌, ◌≤◌, Bool, true, false, cond, List, [], ◌∷◌, ◌++◌, length, get_or, replicate, sym, refl, ap, ◌∙◌, add-zero, arith}
use lib.ListN.{length-replicate}
use Rattle.std.proofs.lemmas.List.{replicate-append-replicate}
use Rattle.program.specs.Basics.{map}
use Rattle.program.specs.Syntax.{Program}
use Rattle.program.specs.Semantics.{truth}
use Rattle.program.specs.Validity.{valid_program}
use Rattle.encoding.proofs.Valid.{program_parts}
use Rattle.interval.specs.Interval.{Interval, interval, threshold_above, threshold_below}
use Rattle.analysis.specs.Reach.{unreached, reached, Alarm, analysis}
use Rattle.analysis.specs.AbstractState.{Abstract}
use Rattle.analysis.specs.Analyser.{analyse}
use Rattle.analysis.specs.Thresholds.{thresholds}
use Rattle.analysis.specs.Whole.{round_limit, initial_abstract, analyse_program}
use Rattle.analysis.specs.Concretisation.{has_alarm}
use Rattle.analysis.specs.Padding.{pad_list, pad}
use Rattle.analysis.proofs.SameThresholds.{analyse_same}
use Rattle.analysis.proofs.Padding.{padding_tells}
use Rattle.analysis.specs.Padding.{PaddingTells}
use Rattle.model.specs.Memory.{zeros, bounds, end_bounds, no_end, slot_stmt, slot_kind, alarm_table}

-- v variables and r arrays, all 0
abbrev pub all_zero : ℕ → ℕ → Abstract
all_zero v r = reached (record { values = replicate v (interval 0 0); arrays = replicate r (interval 0 0) })

map_zero : (xs : List ℕ) → map (λ n. interval 0 0) xs ≡ replicate (length xs) (interval 0 0)
map_zero [] = refl
map_zero (x ∷ xs) = ap (λ (ss : List Interval). interval 0 0 ∷ ss) (map_zero xs)

longer : (n m : ℕ) → n ≤ m → pad_list (m - n) (replicate n (interval 0 0)) ≡ replicate m (interval 0 0)
longer n m h =
    let e : n + (m - n) ≡ m = omega arith in
    replicate-append-replicate n (m - n) (interval 0 0) ∙ ap (λ (k : ℕ). replicate k (interval 0 0)) e

pad_initial : (p : Program) (v r : ℕ) → p.vars ≤ v → length p.arrays ≤ r → pad (v - p.vars) (r - length p.arrays) (initial_abstract p) ≡ all_zero v r
unfolding pad
pad_initial p v r a b =
    λ i. reached (record {
      values = longer p.vars v a i;
      arrays = (ap (pad_list (r - length p.arrays)) (map_zero p.arrays) ∙ longer (length p.arrays) r b) i;
    })

-- the analysis with more variables and arrays, and with thresholds that tell the same
pub analysed : (p : Program) (v r : ℕ) (ms : List ℕ) → valid_program p ≡ true → p.vars ≤ v → length p.arrays ≤ r →
    ((n : ℕ) → threshold_above n ms ≡ threshold_above n (thresholds p)) → ((n : ℕ) → threshold_below n ms ≡ threshold_below n (thresholds p)) →
    analyse p.arrays ms (round_limit p) p.body (all_zero v r)
    ≡ analysis (pad (v - p.vars) (r - length p.arrays) (analyse_program p).out) (analyse_program p).alarms
unfolding PaddingTells
analysed p v r ms valid a b above below =
    analyse_same p.arrays ms (thresholds p) above below (round_limit p) p.body (all_zero v r)
    ∙ ap (λ (h : Abstract). analyse p.arrays (thresholds p) (round_limit p) p.body h) (sym (pad_initial p v r a b))
    ∙ padding_tells p.arrays (thresholds p) p.vars (length p.arrays) (v - p.vars) (r - length p.arrays) (round_limit p) p.body (initial_abstract p)
    (program_parts p valid).body (length-replicate p.vars (interval 0 0), ap length (map_zero p.arrays) ∙ length-replicate (length p.arrays) (interval 0 0))

bounds_padded : (k j : ℕ) (ss : List Interval) → bounds k (pad_list j ss) ≡ bounds k ss
unfolding bounds
bounds_padded zero j ss = refl
bounds_padded (suc k) zero [] = refl
bounds_padded (suc k) (suc j) [] = ap (λ (ws : List ℕ). 0 ∷ 0 ∷ ws) (bounds_padded k j [])
bounds_padded (suc k) j (s ∷ ss) = ap (λ (ws : List ℕ). s.lo ∷ s.hi ∷ ws) (bounds_padded k j ss)

-- more variables and arrays leave the same bounds
pub end_padded : (k j : ℕ) (h : Abstract) → end_bounds (pad k j h) ≡ end_bounds h
unfolding end_bounds pad
end_padded k j unreached = refl
end_padded k j (reached w) = λ i. bounds_padded 64 k w.values i ++ bounds_padded 16 j w.arrays i

pub no_end_padded : (k j : ℕ) (h : Abstract) → no_end (pad k j h) ≡ no_end h
unfolding pad
no_end_padded k j unreached = refl
no_end_padded k j (reached w) = refl

-- a table that has in each slot whether there is such an alarm
pub table_is : (as₁ : List Alarm) (n i : ℕ) (t : List ℕ) → length t ≡ n →
    ((j : ℕ) → j < n → get_or t j 0 ≡ truth (has_alarm as₁ (slot_stmt (i + j)) (slot_kind (i + j)))) → t ≡ alarm_table as₁ n i
unfolding alarm_table
table_is as₁ zero i [] e h = refl
table_is as₁ zero i (x ∷ t) e h = absurd (omega arith)
table_is as₁ (suc n) i [] e h = absurd (omega arith)
table_is as₁ (suc n) i (x ∷ t) e h =
    let at : ℕ → ℕ = λ (j : ℕ). truth (has_alarm as₁ (slot_stmt j) (slot_kind j)) in
    let first : x ≡ at i = h 0 (omega arith) ∙ ap at (add-zero i) in
    let rest = table_is as₁ n (suc i) t (omega arith) (λ j l. h (suc j) (omega arith) ∙ ap at (moved i j)) in
    λ k. first k ∷ rest k
  where
    moved : (i j : ℕ) → i + suc j ≡ suc i + j
    moved i j = omega arith

zeros_at : (n i : ℕ) → get_or (zeros n) i 0 ≡ 0
unfolding zeros
zeros_at zero i = refl
zeros_at (suc n) zero = refl
zeros_at (suc n) (suc i) = zeros_at n i

one_or_none : (b : Bool) (x : ℕ) → x ≡ 0 → cond b 1 x ≡ truth b
one_or_none true x e = refl
one_or_none false x e = e

-- a table of zeros with these alarms marked
pub marked_zeros : (as₁ : List Alarm) (n : ℕ) (t : List ℕ) → length t ≡ n →
    ((i : ℕ) → i < n → get_or t i 0 ≡ cond (has_alarm as₁ (slot_stmt i) (slot_kind i)) 1 (get_or (zeros n) i 0)) → t ≡ alarm_table as₁ n 0
marked_zeros as₁ n t e h =
    table_is as₁ n 0 t e (λ j l. h j l ∙ one_or_none (has_alarm as₁ (slot_stmt j) (slot_kind j)) _ (zeros_at n j)
    ∙ ap (λ (k : ℕ). truth (has_alarm as₁ (slot_stmt k) (slot_kind k))) (from_zero j))
  where
    from_zero : (j : ℕ) → j ≡ 0 + j
    from_zero j = omega arith
