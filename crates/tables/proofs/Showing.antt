-- What the code leaves in the memory and in the lent bytes is what a step shows, ends with or refuses. Rests on model's steps, case by case.
use Rattle.std.proofs.Common.{◌≡◌, ℕ, suc, ◌+◌, ◌-◌, ◌*◌, ◌/◌, ◌%◌, ◌<◌, ◌≤◌, ◌⊎◌, Bool, true, false, not, Some, None, List, [], ◌∷◌, ◌++◌, length, get_or, take, drop, set, sym, refl, ap, ◌∙◌, subst, ⊎_elim, take_all, length-drop, add-zero, cond, nat_lt, add-one, arith, drop-cons, drop-drop}
use Rattle.std.proofs.lemmas.Bool.{lt-ltb, le-ltb, ltb-true, ne_eqb, eq-eqb}
use Rattle.std.proofs.lemmas.Bool.Decides.{nat_tests}
use Rattle.program.specs.Basics.{in_bytes, eight}
use Rattle.model.specs.Promise.{shows, done, refused, Step}
use Rattle.model.specs.Memory.{slots}
use Rattle.model.specs.Machine.{stepped, nowhere, found, slot_row, first_mark, table_of, mark_from, show_from, bounds_row, show_end}
use Rattle.model.proofs.Owed.{show_found, show_nowhere, table_length, mark_end}
use Rattle.tables.specs.declared.types.Told.TheVariants.{Shows, Done, No}
use Rattle.std.specs.List.{position, position_or_len, slice_range}
use Rattle.std.specs.Prelude.{◌==◌}
use Rattle.tables.specs.Slots.{is_mark}
use Rattle.tables.specs.Telling.{ActTold, StepTold}

-- a step by what it did
told_shows : (s : Step) (m row out out₁ : List ℕ) → s ≡ stepped m (shows row) → out₁ ≡ row ++ drop (length row) out → StepTold s out (Shows (length row)) m out₁
unfolding ActTold
told_shows s m row out out₁ e h = subst (λ (t : Step). StepTold t out (Shows (length row)) m out₁) (sym e) (refl, (refl, h))

pub told_done : (s : Step) (m out : List ℕ) → s ≡ stepped m done → StepTold s out Done m out
unfolding ActTold
told_done s m out e = subst (λ (t : Step). StepTold t out Done m out) (sym e) (refl, (refl, refl))

pub told_refused : (s : Step) (m out : List ℕ) (k : ℕ) → s ≡ stepped m (refused k) → StepTold s out (No k) m out
unfolding ActTold
told_refused s m out k e = subst (λ (t : Step). StepTold t out (No k) m out) (sym e) (refl, (refl, refl))

-- an alarm's bytes
pub alarm_put : (out out₁ : List ℕ) (i : ℕ) → 16 ≤ length out → out₁ ≡ eight (i / 4 + 1) ++ drop 8 out → set out₁ 8 (i % 4 + 1) ≡ slot_row i ++ drop 9 out
unfolding in_bytes
alarm_put out out₁ i room e = rw (e, drop-cons out 8 0 (omega arith), add-one (i / 4), add-one (i % 4)) refl

-- two numbers' bytes
two_put : (out out₁ out₂ : List ℕ) (a b : ℕ) → out₁ ≡ eight a ++ drop 8 out → out₂ ≡ take 8 out₁ ++ (eight b ++ drop 16 out₁) → out₂ ≡ (eight a ++ eight b) ++ drop 16 out
unfolding in_bytes
two_put out out₁ out₂ a b e f = f ∙ rw (e, drop-drop 8 8 out) refl

-- the first mark by its place
first_position : (xs : List ℕ) (c : ℕ) → first_mark xs c ≡ cond (nat_lt (position_or_len is_mark xs) (length xs)) (found (c + position_or_len is_mark xs)) nowhere
unfolding first_mark
first_position [] c = refl
first_position (x ∷ xs) c = by-mark (x == 0) (first_position xs (suc c))
  where
    place : ℕ
    place = position_or_len is_mark xs

    one-more : nat_lt (1 + place) (suc (length xs)) ≡ nat_lt place (length xs)
    one-more = grind (arith, nat_tests)

    by-mark : (b : Bool) → first_mark xs (suc c) ≡ cond (nat_lt place (length xs)) (found (suc c + place)) nowhere → cond b (first_mark xs (suc c)) (found c) ≡ cond (nat_lt (cond (not (not b)) (1 + place) 0) (suc (length xs))) (found (c + cond (not (not b)) (1 + place) 0)) nowhere
    by-mark true f = let e : c + (1 + place) ≡ suc c + place = omega arith in rw (one-more, e) f
    by-mark false f = rw (add-zero c, lt-ltb 0 (suc (length xs)) (omega arith)) refl

module _ (xs : List ℕ) (c : ℕ) where
  found_by : (p : ℕ) → Some p ≡ position is_mark xs → (first_mark xs c ≡ found (c + p)) × (p < length xs)
  found_by p h = go (nat_lt (position_or_len is_mark xs) (length xs)) refl h (first_position xs c)
    where
      place : ℕ
      place = position_or_len is_mark xs

      go : (b : Bool) → nat_lt place (length xs) ≡ b → Some p ≡ cond b (Some place) None → first_mark xs c ≡ cond b (found (c + place)) nowhere → (first_mark xs c ≡ found (c + p)) × (p < length xs)
      go true e k f = let q : p ≡ place = cc in rw q (f, ltb-true place (length xs) e)
      go false e k f = let z : ◌≡◌ {A = ℕ} 0 1 = cc in absurd (omega arith)

  none_by : None ≡ position is_mark xs → first_mark xs c ≡ nowhere
  none_by h = go (nat_lt (position_or_len is_mark xs) (length xs)) h (first_position xs c)
    where
      place : ℕ
      place = position_or_len is_mark xs

      go : (b : Bool) → None ≡ cond b (Some place) None → first_mark xs c ≡ cond b (found (c + place)) nowhere → first_mark xs c ≡ nowhere
      go true k f = let z : ◌≡◌ {A = ℕ} 0 1 = cc in absurd (omega arith)
      go false k f = f

-- the marks from the cursor on
module _ (m : List ℕ) (c : ℕ) (l : length m ≡ 22083) where
  pub marks_past : (length (table_of m) < c) ⊎ (length (table_of m) < length (table_of m)) → mark_from m c ≡ nowhere
  marks_past h = mark_end m c (⊎_elim (λ (k : length (table_of m) < c). omega (arith, table_length m l)) (λ (k : length (table_of m) < length (table_of m)). absurd (omega arith)) h)

  marks_are : (marks : List ℕ) → c ≤ length (table_of m) → marks ≡ slice_range (table_of m) c (length (table_of m)) → mark_from m c ≡ first_mark marks c
  unfolding mark_from
  marks_are marks h e = ap (λ (xs : List ℕ). first_mark xs c) (sym (e ∙ take_all (length (table_of m) - c) (drop c (table_of m)) (omega (arith, length-drop c (table_of m)))))

  pub marks_none : (marks : List ℕ) → c ≤ length (table_of m) → marks ≡ slice_range (table_of m) c (length (table_of m)) → None ≡ position is_mark marks → mark_from m c ≡ nowhere
  marks_none marks h e k = marks_are marks h e ∙ none_by marks c k

  pub marks_some : (marks : List ℕ) (p : ℕ) → c ≤ length (table_of m) → marks ≡ slice_range (table_of m) c (length (table_of m)) → length marks + c ≡ length (table_of m) →
      Some p ≡ position is_mark marks → (mark_from m c ≡ found (c + p)) × (c + p < slots)
  marks_some marks p h e n k = let q = found_by marks c p k in (marks_are marks h e ∙ q.0, omega (arith, q.1, table_length m l))

-- the alarm of a slot that was found
pub shown_found : (m m₁ out out₁ : List ℕ) (c i : ℕ) → mark_from m c ≡ found i → m₁ ≡ set m 2 (i + 1) → out₁ ≡ slot_row i ++ drop 9 out →
    StepTold (show_from m c) out (Shows 9) m₁ out₁
unfolding in_bytes
shown_found m m₁ out out₁ c i e g h = rw (g, add-one i) (told_shows (show_from m c) (set m 2 (suc i)) (slot_row i) out out₁ (show_found m c i e) h)

-- no slot was found
pub shown_nowhere : (m m₁ out : List ℕ) (c : ℕ) → mark_from m c ≡ nowhere → m₁ ≡ set m 2 slots → StepTold (show_from m c) out Done m₁ out
shown_nowhere m m₁ out c e g = rw g (told_done (show_from m c) (set m 2 slots) out (show_nowhere m c e))

-- there is no such variable
pub end_refused : (m out : List ℕ) (x : ℕ) → get_or m 0 0 ≤ x → StepTold (show_end m x) out (No 3) m out
unfolding show_end
end_refused m out x h = told_refused (show_end m x) m out 3 (rw (le-ltb x (get_or m 0 0) h) refl)

-- no run comes to an end
pub end_unreached : (m out : List ℕ) (x : ℕ) → x < get_or m 0 0 → (get_or m 1 0 ≡ 0 → ⊥) → StepTold (show_end m x) out Done m out
unfolding show_end
end_unreached m out x h n = told_done (show_end m x) m out (rw (lt-ltb x (get_or m 0 0) h, ne_eqb (get_or m 1 0) 0 n) refl)

-- a variable's bounds
pub end_shown : (m m₁ out out₁ out₂ : List ℕ) (x lo hi : ℕ) → x < get_or m 0 0 → get_or m 1 0 ≡ 0 → lo ≡ get_or m (3 + 2 * x) 0 → hi ≡ get_or m (4 + 2 * x) 0 →
    m₁ ≡ set m 2 slots → out₁ ≡ eight lo ++ drop 8 out → out₂ ≡ take 8 out₁ ++ (eight hi ++ drop 16 out₁) → StepTold (show_end m x) out (Shows 16) m₁ out₂
unfolding show_end in_bytes
end_shown m m₁ out out₁ out₂ x lo hi h n low high g e f =
    rw g (told_shows (show_end m x) (set m 2 slots) (bounds_row m x) out out₂ (rw (lt-ltb x (get_or m 0 0) h, eq-eqb (get_or m 1 0) 0 n) refl)
    (two_put out out₁ out₂ (get_or m (3 + 2 * x) 0) (get_or m (4 + 2 * x) 0) (rw low at e) (rw high at f)))
