-- Told to show a program's alarms, the machine shows the marked slots one after another, and then ends. Over any end and any alarms.
use Rattle.std.proofs.Common.{◌≡◌, ℕ, zero, suc, ◌+◌, Bool, true, false, cond, eqb, List, [], ◌∷◌, ◌++◌, sym, refl, ap, ◌∙◌, append_assoc, append-nil, add-zero, arith}
use Rattle.program.specs.Basics.{map, eight}
use Rattle.program.specs.Semantics.{truth}
use Rattle.program.specs.Command.{Command}
use Rattle.analysis.specs.Reach.{Alarm}
use Rattle.analysis.specs.AbstractState.{Abstract}
use Rattle.model.specs.Promise.{Event, next, shows, done, Step, ran, one_act, run_machine}
use Rattle.model.specs.Memory.{slots, alarm_table, memory_of}
use Rattle.model.specs.Machine.{stepped, Found, nowhere, found, first_mark, slot_row, on_found, mark_from, show_from, on_event, machine}
use Rattle.model.proofs.Order.{alarm_of, marked, listed}
use Rattle.model.proofs.Memory.{set_cursor, table_laid, drop_table}

-- an alarm as bytes
abbrev pub alarm_row : Alarm → List ℕ
alarm_row a = eight a.stmt ++ a.kind ∷ []

-- the step that shows what was found in a memory that holds n, h and as₁
abbrev pub found_step : ℕ → Abstract → List Alarm → Found → Step
found_step n h as₁ nowhere = stepped (memory_of slots n h as₁) done
found_step n h as₁ (found i) = stepped (memory_of (suc i) n h as₁) (shows (slot_row i))

found_is : (c n : ℕ) (h : Abstract) (as₁ : List Alarm) (f : Found) → on_found (memory_of c n h as₁) f ≡ found_step n h as₁ f
unfolding on_found
found_is c n h as₁ nowhere = ap (λ (m : List ℕ). stepped m done) (set_cursor c slots n h as₁)
found_is c n h as₁ (found i) = ap (λ (m : List ℕ). stepped m (shows (slot_row i))) (set_cursor c (suc i) n h as₁)

-- from slot i on, with k slots to go
show_laid : (c n : ℕ) (h : Abstract) (as₁ : List Alarm) (i k : ℕ) → i + k ≡ slots → show_from (memory_of c n h as₁) i ≡ found_step n h as₁ (first_mark (alarm_table as₁ k i) i)
unfolding mark_from
show_laid c n h as₁ i k e =
    rw (table_laid c n h as₁, drop_table as₁ i k slots 0 e, add-zero i) (found_is c n h as₁ (first_mark (alarm_table as₁ k i) i))

-- a command that has shown the rows ss shows these alarms and ends, in a memory that holds n, h and as₁
abbrev pub ShowsAll : (Command → Bool) → ℕ → Abstract → List Alarm → List ℕ → Event → List (List ℕ) → List Alarm → Type 0
ShowsAll known n h as₁ m ev ss xs =
    (s : ℕ) × (c : ℕ) × (run_machine s (machine known) m ev ss ≡ ran (memory_of c n h as₁) (ss ++ map alarm_row xs) 0)

-- a step that shows a row
pub step_shows : (known : Command → Bool) (s : ℕ) (m m₁ : List ℕ) (ev : Event) (ss : List (List ℕ)) (r : List ℕ) → on_event known m ev ≡ stepped m₁ (shows r) →
    run_machine (suc s) (machine known) m ev ss ≡ run_machine s (machine known) m₁ next (ss ++ r ∷ [])
unfolding run_machine one_act
step_shows known s m m₁ ev ss r e = rw e refl

-- a step that ends a command
pub step_done : (known : Command → Bool) (m m₁ : List ℕ) (ev : Event) (ss : List (List ℕ)) → on_event known m ev ≡ stepped m₁ done → run_machine 1 (machine known) m ev ss ≡ ran m₁ ss 0
unfolding run_machine one_act
step_done known m m₁ ev ss e = rw e refl

-- slot i, given what comes of the slots behind it
shown_slot : (known : Command → Bool) (n : ℕ) (h : Abstract) (as₁ : List Alarm) (i : ℕ) (b : Bool) (f : Found) (xs : List Alarm) (m : List ℕ) (ev : Event) (ss : List (List ℕ)) →
    ((m₁ : List ℕ) (ev₁ : Event) (ss₁ : List (List ℕ)) → on_event known m₁ ev₁ ≡ found_step n h as₁ f → ShowsAll known n h as₁ m₁ ev₁ ss₁ xs) →
    on_event known (memory_of (suc i) n h as₁) next ≡ found_step n h as₁ f →
    on_event known m ev ≡ found_step n h as₁ (cond (eqb (truth b) 0) f (found i)) → ShowsAll known n h as₁ m ev ss (cond b (alarm_of i ∷ xs) xs)
shown_slot known n h as₁ i true f xs m ev ss rest go e =
    let (s, c, r) = rest (memory_of (suc i) n h as₁) next (ss ++ slot_row i ∷ []) go in
    (suc s, c, step_shows known s m (memory_of (suc i) n h as₁) ev ss (slot_row i) e ∙ r ∙ ap (λ (rs : List (List ℕ)). ran (memory_of c n h as₁) rs 0) (append_assoc ss (slot_row i ∷ []) (map alarm_row xs)))
shown_slot known n h as₁ i false f xs m ev ss rest go e = rest m ev ss e

-- told to go on, the machine looks from the cursor
pub goes_on : (known : Command → Bool) (n : ℕ) (h : Abstract) (as₁ : List Alarm) (i k : ℕ) → i + k ≡ slots → on_event known (memory_of i n h as₁) next ≡ found_step n h as₁ (first_mark (alarm_table as₁ k i) i)
unfolding on_event memory_of
goes_on known n h as₁ i k e = show_laid i n h as₁ i k e

-- a step that shows what is found from slot i on, with k slots to go
all_shown : (known : Command → Bool) (n : ℕ) (h : Abstract) (as₁ : List Alarm) (k i : ℕ) (m : List ℕ) (ev : Event) (ss : List (List ℕ)) → i + k ≡ slots →
    on_event known m ev ≡ found_step n h as₁ (first_mark (alarm_table as₁ k i) i) → ShowsAll known n h as₁ m ev ss (listed as₁ k i)
unfolding first_mark alarm_table listed
all_shown known n h as₁ zero i m ev ss l e = (1, slots, step_done known m (memory_of slots n h as₁) ev ss e ∙ ap (λ (rs : List (List ℕ)). ran (memory_of slots n h as₁) rs 0) (sym (append-nil ss)))
all_shown known n h as₁ (suc k) i m ev ss l e =
    shown_slot known n h as₁ i (marked as₁ i) (first_mark (alarm_table as₁ k (suc i)) (suc i)) (listed as₁ k (suc i)) m ev ss
    (λ m₁ ev₁ ss₁ e₁. all_shown known n h as₁ k (suc i) m₁ ev₁ ss₁ (omega arith) e₁) (goes_on known n h as₁ (suc i) k (omega arith)) e

-- from the first slot on
pub shows_all : (known : Command → Bool) (c n : ℕ) (h : Abstract) (as₁ : List Alarm) (ev : Event) → on_event known (memory_of c n h as₁) ev ≡ show_from (memory_of c n h as₁) 0 →
    ShowsAll known n h as₁ (memory_of c n h as₁) ev [] (listed as₁ slots 0)
shows_all known c n h as₁ ev e = all_shown known n h as₁ slots 0 (memory_of c n h as₁) ev [] refl (e ∙ show_laid c n h as₁ 0 slots refl)
