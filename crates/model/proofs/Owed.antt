-- What a step of the machine is, case by case: what code that carries it out has to meet. Rests on the reader.
use Rattle.std.proofs.Common.{◌≡◌, ℕ, suc, ◌+◌, ◌<◌, ◌≤◌, true, cond, ◌&&◌, eqb, leb, List, length, get_or, drop, set, sym, refl, ap, ◌∙◌, arith, length-drop, drop_of_length-le, length-take, get_or-drop, drop-cons, get_or-take}
use Rattle.std.proofs.lemmas.Bool.{lt-ltb, le-ltb, ne_eqb, and_parts, eqb-true, leb-true}
use Rattle.program.specs.Basics.{in_bytes}
use Rattle.program.specs.Syntax.{Program}
use Rattle.program.specs.Command.{Command, load, all_alarms, at_end, everything}
use Rattle.encoding.specs.Reader.{nothing, heard}
use Rattle.encoding.specs.Statements.{Hears}
use Rattle.encoding.proofs.Hear.{hear_is}
use Rattle.model.specs.Promise.{command, next, shows, done, refused}
use Rattle.model.specs.Memory.{slots, memory_size, laid}
use Rattle.model.specs.Machine.{stepped, nowhere, found, first_mark, table_of, slot_row, on_found, mark_from, show_from, bounds_row, show_end, on_command, on_event}
use Rattle.model.specs.Entry.{own, step_fits}
use Rattle.model.proofs.Memory.{length_zeros, length_memory}
use Rattle.model.proofs.Rightly.{overwrite_all, on_nothing, on_known, shows_bounds}

-- when a step is asked for properly
pub fits_is : (m : List ℕ) (kind : ℕ) (out : List ℕ) → step_fits m kind out ≡ (eqb (length m) memory_size && (leb kind 1 && leb 16 (length out)))
unfolding step_fits
fits_is m kind out = rw (length_zeros memory_size) refl

pub fits_length : (m : List ℕ) (kind : ℕ) (out : List ℕ) → step_fits m kind out ≡ true → (length m ≡ memory_size) × (kind ≤ 1) × (16 ≤ length out)
fits_length m kind out h =
    let q = and_parts (eqb (length m) memory_size) (leb kind 1 && leb 16 (length out)) (sym (fits_is m kind out) ∙ h) in
    let r = and_parts (leb kind 1) (leb 16 (length out)) q.1 in
    (eqb-true (length m) memory_size q.0, leb-true kind 1 r.0, leb-true 16 (length out) r.1)

-- a text, by what it says
pub step_refused : (m t : List ℕ) → Hears t nothing → own.step m (command t) ≡ stepped m (refused 1)
step_refused m t h = on_nothing everything m t (hear_is t nothing h)

step_known : (m t : List ℕ) (c : Command) → Hears t (heard c) → own.step m (command t) ≡ on_command m c
step_known m t c h = on_known everything m t c (hear_is t (heard c) h) refl

pub step_load : (m t : List ℕ) (p : Program) → Hears t (heard (load p)) → length m ≡ memory_size → own.step m (command t) ≡ stepped (laid 0 p) done
unfolding on_command
step_load m t p h l = step_known m t (load p) h ∙ ap (λ (w : List ℕ). stepped w done) (overwrite_all m (laid 0 p) (l ∙ sym (length_memory 0 _ _ _)))

pub step_alarms : (m t : List ℕ) → Hears t (heard all_alarms) → own.step m (command t) ≡ show_from m 0
unfolding on_command
step_alarms m t h = step_known m t all_alarms h

pub step_next : (m : List ℕ) → own.step m next ≡ show_from m (get_or m 2 0)
unfolding on_event
step_next m = refl

-- a variable's end
pub step_end : (m t : List ℕ) (x : ℕ) → Hears t (heard (at_end x)) → own.step m (command t) ≡ show_end m x
unfolding on_command
step_end m t x h = step_known m t (at_end x) h

-- a variable that there is not
pub step_end_refused : (m t : List ℕ) (x : ℕ) → Hears t (heard (at_end x)) → get_or m 0 0 ≤ x → own.step m (command t) ≡ stepped m (refused 3)
unfolding show_end
step_end_refused m t x h l = step_end m t x h ∙ rw (le-ltb x (get_or m 0 0) l) refl

-- no run comes to an end
pub step_end_unreached : (m t : List ℕ) (x : ℕ) → Hears t (heard (at_end x)) → x < get_or m 0 0 → (get_or m 1 0 ≡ 0 → ⊥) → own.step m (command t) ≡ stepped m done
unfolding show_end
step_end_unreached m t x h l n = step_end m t x h ∙ rw (lt-ltb x (get_or m 0 0) l, ne_eqb (get_or m 1 0) 0 n) refl

-- a variable's bounds
pub step_end_shown : (m t : List ℕ) (x : ℕ) → Hears t (heard (at_end x)) → x < get_or m 0 0 → get_or m 1 0 ≡ 0 → own.step m (command t) ≡ stepped (set m 2 slots) (shows (bounds_row m x))
step_end_shown m t x h l e = step_end m t x h ∙ shows_bounds m x l e

-- what is shown from slot c on
pub show_found : (m : List ℕ) (c i : ℕ) → mark_from m c ≡ found i → show_from m c ≡ stepped (set m 2 (suc i)) (shows (slot_row i))
unfolding on_found
show_found m c i e = ap (on_found m) e

pub show_nowhere : (m : List ℕ) (c : ℕ) → mark_from m c ≡ nowhere → show_from m c ≡ stepped (set m 2 slots) done
unfolding on_found
show_nowhere m c e = ap (on_found m) e

-- slot by slot
pub table_at : (m : List ℕ) (i : ℕ) → i < slots → get_or (table_of m) i 0 ≡ get_or m (163 + i) 0
table_at m i h = get_or-take slots (drop 163 m) i 0 h ∙ get_or-drop 163 m i 0

pub table_length : (m : List ℕ) → length m ≡ memory_size → length (table_of m) ≡ slots
table_length m e = rw (length-take slots (drop 163 m), length-drop 163 m, e) refl

mark_at : (m : List ℕ) (i : ℕ) → length m ≡ memory_size → i < slots → mark_from m i ≡ cond (eqb (get_or m (163 + i) 0) 0) (mark_from m (suc i)) (found i)
unfolding mark_from first_mark
mark_at m i e h =
    let l : i < length (table_of m) = omega (arith, table_length m e) in
    rw (drop-cons (table_of m) i 0 l, table_at m i h) refl

-- a slot that is 0 is passed over
pub mark_step : (m : List ℕ) (i : ℕ) → length m ≡ memory_size → i < slots → get_or m (163 + i) 0 ≡ 0 → mark_from m i ≡ mark_from m (suc i)
mark_step m i e h z = mark_at m i e h ∙ rw z refl

-- one that is not is found
pub mark_found : (m : List ℕ) (i : ℕ) → length m ≡ memory_size → i < slots → (get_or m (163 + i) 0 ≡ 0 → ⊥) → mark_from m i ≡ found i
mark_found m i e h z = mark_at m i e h ∙ rw (ne_eqb (get_or m (163 + i) 0) 0 z) refl

-- behind the last slot there is none
pub mark_end : (m : List ℕ) (i : ℕ) → slots ≤ i → mark_from m i ≡ nowhere
unfolding mark_from first_mark
mark_end m i h =
    let l : length (table_of m) ≤ i = simp length-take (omega arith) in
    rw (drop_of_length-le (table_of m) {i = i} l) refl

-- the rows that are shown have nine and sixteen bytes
pub length_slot_row : (i : ℕ) → length (slot_row i) ≡ 9
unfolding in_bytes
length_slot_row i = refl

pub length_bounds_row : (m : List ℕ) (x : ℕ) → length (bounds_row m x) ≡ 16
unfolding in_bytes
length_bounds_row m x = refl
