-- Steps keep the memory's length and its words below 2^64. Rests on the bounds at the end of every valid program lying below 2^32.
use Rattle.std.proofs.Common.{◌≡◌, ℕ, zero, suc, ◌+◌, ◌<◌, ◌≤◌, Bool, true, false, cond, eqb, ltb, List, [], ◌∷◌, ◌++◌, length, get_or, drop, set, sym, refl, ap, subst, ⊎_elim, arith, length-drop, length-set, drop_of_length-le, length-take}
use Rattle.std.proofs.lemmas.Bool.{ltb-true, lt-ltb, cases_lt}
use Rattle.program.specs.Basics.{all}
use Rattle.program.specs.Semantics.{truth}
use Rattle.program.specs.Command.{Command, load, all_alarms, at_end, valid}
use Rattle.interval.specs.Interval.{Interval}
use Rattle.analysis.specs.Reach.{unreached, reached, Alarm}
use Rattle.analysis.specs.AbstractState.{Abstract}
use Rattle.analysis.specs.Whole.{analyse_program}
use Rattle.analysis.specs.Concretisation.{has_alarm}
use Rattle.analysis.proofs.Relations.{All, Proper, Well, all_from_test, all_to_test}
use Rattle.analysis.proofs.Lists.{all_set}
use Rattle.analysis.proofs.Missed.{proper_out}
use Rattle.encoding.specs.Reader.{Heard, nothing, heard, hear}
use Rattle.encoding.specs.Statements.{Hears, ReadsOnly}
use Rattle.encoding.proofs.Hear.{reads_only}
use Rattle.encoding.proofs.Valid.{program_parts}
use Rattle.model.specs.Promise.{Event, command, next, shows, done, refused, all_small, Steady}
use Rattle.model.specs.Memory.{slots, scratch, memory_size, zeros, bounds, end_bounds, no_end, slot_stmt, slot_kind, alarm_table, memory_of, laid}
use Rattle.model.specs.Machine.{stepped, overwrite, Found, nowhere, found, first_mark, table_of, on_found, mark_from, show_from, bounds_row, show_end, on_command, on_heard, on_event, machine}
use Rattle.model.proofs.Range.{all_append}
use Rattle.model.proofs.Memory.{length_zeros}

-- a word that fits 64 bits
abbrev Small : ℕ → Type 0
Small w = w < 18446744073709551616

small_words : (ms : List ℕ) → all_small ms ≡ true → All Small ms
unfolding all_small
small_words ms h = all_from_test (λ m. ltb m 18446744073709551616) Small (λ m e. ltb-true m 18446744073709551616 e) ms h

words_small : (ms : List ℕ) → All Small ms → all_small ms ≡ true
unfolding all_small
words_small ms h = all_to_test (λ m. ltb m 18446744073709551616) Small (λ m e. lt-ltb m 18446744073709551616 e) ms h

-- what a step does to a memory
abbrev Keeps : List ℕ → List ℕ → Type 0
Keeps m m₁ = (length m₁ ≡ length m) × (All Small m → All Small m₁)

keeps_same : (m : List ℕ) → Keeps m m
keeps_same m = (refl, λ h. h)

keeps_set : (m : List ℕ) (i v : ℕ) → Small v → Keeps m (set m i v)
keeps_set m i v s = (length-set m i v, λ h. all_set Small m i v h s)

pub length_overwrite : (m ws : List ℕ) → length (overwrite m ws) ≡ length m
unfolding overwrite
length_overwrite [] ws = refl
length_overwrite (m ∷ ms) [] = refl
length_overwrite (m ∷ ms) (w ∷ ws) = ap suc (length_overwrite ms ws)

small_overwrite : (m ws : List ℕ) → All Small ws → All Small m → All Small (overwrite m ws)
unfolding overwrite
small_overwrite [] ws s h = tt
small_overwrite (m ∷ ms) [] s h = h
small_overwrite (m ∷ ms) (w ∷ ws) s h = (s.0, small_overwrite ms ws s.1 h.1)

-- words of a program's memory
small_zeros : (n : ℕ) → All Small (zeros n)
unfolding zeros
small_zeros zero = tt
small_zeros (suc n) = (omega arith, small_zeros n)

small_bounds : (k : ℕ) (ss : List Interval) → All Proper ss → All Small (bounds k ss)
unfolding bounds
small_bounds zero ss h = tt
small_bounds (suc k) [] h = (omega arith, (omega arith, small_bounds k [] tt))
small_bounds (suc k) (s ∷ ss) h = let p = h.0 in (omega arith, (omega arith, small_bounds k ss h.1))

small_ends : (v r : ℕ) (h : Abstract) → Well v r h → All Small (end_bounds h)
unfolding end_bounds
small_ends v r unreached w = all_append Small _ _ (small_bounds 64 [] tt) (small_bounds 16 [] tt)
small_ends v r (reached k) w = all_append Small _ _ (small_bounds 64 k.values w.2) (small_bounds 16 k.arrays w.3)

small_truth : (b : Bool) → Small (truth b)
small_truth true = omega arith
small_truth false = omega arith

small_table : (as₁ : List Alarm) (n i : ℕ) → All Small (alarm_table as₁ n i)
unfolding alarm_table
small_table as₁ zero i = tt
small_table as₁ (suc n) i = (small_truth (has_alarm as₁ (slot_stmt i) (slot_kind i)), small_table as₁ n (suc i))

small_no_end : (h : Abstract) → Small (no_end h)
small_no_end unreached = omega arith
small_no_end (reached w) = omega arith

small_memory : (c n v r : ℕ) (h : Abstract) (as₁ : List Alarm) → Small c → Small n → Well v r h → All Small (memory_of c n h as₁)
unfolding memory_of
small_memory c n v r h as₁ s t w = (
  t,
  (
    small_no_end h,
    (
      s,
      all_append Small (end_bounds h) (alarm_table as₁ slots 0 ++ zeros scratch) (small_ends v r h w)
          (all_append Small (alarm_table as₁ slots 0) (zeros scratch) (small_table as₁ slots 0) (small_zeros scratch)),
    ),
  ),
)

-- a slot that is found is one of the table's
abbrev Below : ℕ → Found → Type 0
Below n nowhere = Unit {0}
Below n (found i) = i < n

first_below : (n : ℕ) (ws : List ℕ) (i : ℕ) → i + length ws ≤ n → Below n (first_mark ws i)
unfolding first_mark
first_below n [] i h = tt
first_below n (w ∷ ws) i h = either-below (eqb w 0) (first_mark ws (suc i)) (first_below n ws (suc i) (omega arith)) (omega arith)
  where
    either-below : (b : Bool) (f : Found) → Below n f → i < n → Below n (cond b f (found i))
    either-below true f g l = g
    either-below false f g l = l

dropped_below : (n : ℕ) (ws : List ℕ) (c : ℕ) → length ws ≤ n → Below n (first_mark (drop c ws) c)
unfolding first_mark
dropped_below n ws c h =
    ⊎_elim (λ (l : c < length ws). first_below n (drop c ws) c (simp length-drop (omega arith)))
    (λ (l : length ws ≤ c). rw (drop_of_length-le ws {i = c} l) tt) (cases_lt c (length ws))

keeps_found : (m : List ℕ) (f : Found) → Below slots f → Keeps m (on_found m f).memory
unfolding on_found
keeps_found m nowhere h = keeps_set m 2 slots (omega arith)
keeps_found m (found i) h = keeps_set m 2 (suc i) (omega arith)

keeps_from : (m : List ℕ) (c : ℕ) → Keeps m (show_from m c).memory
unfolding mark_from
keeps_from m c = keeps_found m (first_mark (drop c (table_of m)) c) (dropped_below slots (table_of m) c (simp length-take (omega arith)))

keeps_end : (m : List ℕ) (x : ℕ) → Keeps m (show_end m x).memory
unfolding show_end
keeps_end m x = go (ltb x (get_or m 0 0)) (eqb (get_or m 1 0) 0)
  where
    go : (b d : Bool) → Keeps m (cond b (cond d (stepped (set m 2 slots) (shows (bounds_row m x))) (stepped m done)) (stepped m (refused 3))).memory
    go true true = keeps_set m 2 slots (omega arith)
    go true false = keeps_same m
    go false d = keeps_same m

keeps_command : (m : List ℕ) (c : Command) → valid c ≡ true → Keeps m (on_command m c).memory
unfolding on_command valid
keeps_command m (load p) v =
    let k : p.vars ≤ 64 = (program_parts p v).vars in
    (length_overwrite m (laid 0 p), λ h. small_overwrite m (laid 0 p) (small_memory 0 p.vars p.vars (length p.arrays) (analyse_program p).out (analyse_program p).alarms (omega arith) (omega arith) (proper_out p v)) h)
keeps_command m all_alarms v = keeps_from m 0
keeps_command m (at_end x) v = keeps_end m x

keeps_heard : (known : Command → Bool) (m t : List ℕ) (h : Heard) → Hears t h → Keeps m (on_heard known m h).memory
unfolding on_heard
keeps_heard known m t nothing e = keeps_same m
keeps_heard known m t (heard c) e = go (known c)
  where
    go : (b : Bool) → Keeps m (cond b (on_command m c) (stepped m (refused 2))).memory
    go true = keeps_command m c e.1
    go false = keeps_same m

keeps_event : (known : Command → Bool) (m : List ℕ) (ev : Event) → Keeps m (on_event known m ev).memory
unfolding on_event ReadsOnly
keeps_event known m (command t) = keeps_heard known m t (hear t) (reads_only t)
keeps_event known m next = keeps_from m (get_or m 2 0)

all_zeros : (n : ℕ) → all (λ m. eqb m 0) (zeros n) ≡ true
unfolding zeros
all_zeros zero = refl
all_zeros (suc n) = all_zeros n

pub steadily : (known : Command → Bool) → Steady (machine known)
unfolding Steady
steadily known = (
  subst (λ (n : ℕ). n ≤ 262144) (sym (length_zeros memory_size)) (omega arith),
  all_zeros memory_size,
  λ m ev. let k = keeps_event known m ev in
      (k.0, λ h. words_small (on_event known m ev).memory (k.1 (small_words m h))),
)
