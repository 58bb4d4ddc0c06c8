-- What a step of the machine did, by its act: a row that is shown has nine or sixteen bytes, the cursor has moved on and the program is kept; a refusal
-- has a number from 1 to 999. Rests on the machine's definition.
use Rattle.std.proofs.Common.{◌≡◌, ℕ, suc, ◌+◌, ◌<◌, ◌≤◌, Bool, true, false, cond, eqb, ltb, ◌⊎◌, List, [], ◌∷◌, length, get_or, drop, set, refl, ap, ◌∙◌, inl, inr, ⊎_elim, arith, length-drop, length-take, get_or-set_same}
use Rattle.std.proofs.lemmas.Bool.{cases_lt}
use Rattle.program.specs.Command.{Command, load, all_alarms, at_end, everything}
use Rattle.encoding.specs.Reader.{Heard, nothing, heard, hear}
use Rattle.model.specs.Promise.{Event, command, next, Act, shows, done, refused}
use Rattle.model.specs.Memory.{slots}
use Rattle.model.specs.Machine.{stepped, Found, nowhere, found, first_mark, table_of, on_found, mark_from, bounds_row, show_end, on_command, on_heard, on_event}
use Rattle.model.specs.Entry.{own}
use Rattle.model.proofs.Memory.{set_cursor}
use Rattle.model.proofs.Owed.{mark_end, length_slot_row, length_bounds_row}
use Rattle.session.specs.Answers.{Kept}

-- a slot from c on and below n
abbrev From : (n c : ℕ) → Found → Type 0
From n c nowhere = Unit {0}
From n c (found i) = (c ≤ i) × (i < n)

passed_over : (n i : ℕ) (b : Bool) (f : Found) → i < n → From n (suc i) f → From n i (cond b f (found i))
passed_over n i true nowhere h g = tt
passed_over n i true (found j) h g = (omega arith, g.1)
passed_over n i false f h g = (omega arith, h)

first_from : (n : ℕ) (ws : List ℕ) (i : ℕ) → i + length ws ≤ n → From n i (first_mark ws i)
unfolding first_mark
first_from n [] i h = tt
first_from n (w ∷ ws) i h = passed_over n i (eqb w 0) (first_mark ws (suc i)) (omega arith) (first_from n ws (suc i) (omega arith))

mark_within : (m : List ℕ) (c : ℕ) → From slots c (mark_from m c)
mark_within m c =
    ⊎_elim
    (λ (h : c < slots). unfold mark_from in first_from slots (drop c (table_of m)) c (simp (length-drop, length-take) (omega arith)))
    (λ (h : slots ≤ c). rw (mark_end m c h) tt)
    (cases_lt c slots)

-- what holds of a step that shows a row
pub record Goes_on (ev : Event) (m m₁ row : List ℕ) : Type 0 where
  pub size : (length row ≡ 9) ⊎ (length row ≡ 16)
  pub on : ev ≡ next → get_or m 2 0 < get_or m₁ 2 0
  pub within : get_or m₁ 2 0 ≤ slots
  pub kept : Kept m m₁

-- what holds of a step, by its act
abbrev pub Goes : Event → (m m₁ : List ℕ) → Act → Type 0
Goes ev m m₁ (shows row) = Goes_on ev m m₁ row
Goes ev m m₁ done = Unit {0}
Goes ev m m₁ (refused k) = (1 ≤ k) × (k < 1000)

-- the cursor moved keeps the program
moved : (m : List ℕ) (d : ℕ) → Kept m (set m 2 d)
moved m d p st = record { proper = st.proper; cursor = d; is = ap (λ (w : List ℕ). set w 2 d) st.is ∙ set_cursor st.cursor d _ _ _ }

goes_found : (ev : Event) (m : List ℕ) (c : ℕ) (f : Found) → 2 < length m → From slots c f → (ev ≡ next → c ≡ get_or m 2 0) → Goes ev m (on_found m f).memory (on_found m f).act
unfolding on_found
goes_found ev m c nowhere l w e = tt
goes_found ev m c (found i) l w e =
    let at : get_or (set m 2 (suc i)) 2 0 ≡ suc i = get_or-set_same m 2 (suc i) 0 l in
    record { size = inl (length_slot_row i); on = λ q. omega (arith, e q); within = omega arith; kept = moved m (suc i) }

-- showing a variable's end, by the two tests
goes_end : (t m : List ℕ) (x : ℕ) (b z : Bool) → 2 < length m →
    Goes (command t) m (cond b (cond z (stepped (set m 2 slots) (shows (bounds_row m x))) (stepped m done)) (stepped m (refused 3))).memory
    (cond b (cond z (stepped (set m 2 slots) (shows (bounds_row m x))) (stepped m done)) (stepped m (refused 3))).act
goes_end t m x false z l = (omega arith, omega arith)
goes_end t m x true false l = tt
goes_end t m x true true l =
    let at : get_or (set m 2 slots) 2 0 ≡ slots = get_or-set_same m 2 slots 0 l in
    record { size = inr (length_bounds_row m x); on = λ q. let z : ◌≡◌ {A = ℕ} 0 1 = cc in absurd (omega arith); within = omega arith; kept = moved m slots }

goes_command : (t m : List ℕ) (c : Command) → 2 < length m → Goes (command t) m (on_command m c).memory (on_command m c).act
unfolding on_command show_end
goes_command t m (load p) l = tt
goes_command t m all_alarms l = goes_found (command t) m 0 (mark_from m 0) l (mark_within m 0) (λ q. let z : ◌≡◌ {A = ℕ} 0 1 = cc in absurd (omega arith))
goes_command t m (at_end x) l = goes_end t m x (ltb x (get_or m 0 0)) (eqb (get_or m 1 0) 0) l

goes_heard : (t m : List ℕ) (h : Heard) → 2 < length m → Goes (command t) m (on_heard everything m h).memory (on_heard everything m h).act
unfolding on_heard
goes_heard t m nothing l = (omega arith, omega arith)
goes_heard t m (heard c) l = goes_command t m c l

-- of every step
pub goes : (m : List ℕ) (ev : Event) → 2 < length m → Goes ev m (own.step m ev).memory (own.step m ev).act
unfolding on_event
goes m (command t) l = goes_heard t m (hear t) l
goes m next l = goes_found next m (get_or m 2 0) (mark_from m (get_or m 2 0)) l (mark_within m (get_or m 2 0)) (λ q. refl)
