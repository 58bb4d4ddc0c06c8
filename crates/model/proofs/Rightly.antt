-- The machine answers each command as defined. Rests on the reader, on the order of alarms and on their slots.
use Rattle.std.proofs.Common.{◌≡◌, ℕ, ◌<◌, ◌≤◌, Bool, true, false, List, [], ◌∷◌, ◌++◌, length, get_or, set, sym, refl, ap, ◌∙◌, subst, inl, inr, ⊎_elim, arith}
use Rattle.std.proofs.lemmas.Bool.Decides.{nat_tests}
use Rattle.std.proofs.lemmas.Bool.{ltb-true, lt-ltb, le-ltb, cases_lt}
use Rattle.program.specs.Basics.{eight}
use Rattle.program.specs.Syntax.{Program}
use Rattle.program.specs.Validity.{valid_program}
use Rattle.program.specs.Command.{Command, load, all_alarms, at_end, valid}
use Rattle.analysis.specs.Reach.{unreached, reached, Alarm}
use Rattle.analysis.specs.AbstractState.{Env, Abstract, nth_interval}
use Rattle.analysis.specs.Whole.{analyse_program}
use Rattle.analysis.specs.Respond.{end_interval, respond}
use Rattle.encoding.specs.Reader.{Heard, nothing, heard, hear}
use Rattle.encoding.specs.Statements.{Hears, ReadsOnly}
use Rattle.encoding.proofs.Hear.{reads_only}
use Rattle.model.specs.Promise.{Event, command, next, shows, done, refused, Ran, ran, refusal_end, one_act, run_machine, Encodes, Answers, Right}
use Rattle.model.specs.Memory.{slots, alarm_table, memory_of, laid}
use Rattle.model.specs.Machine.{stepped, overwrite, first_mark, bounds_row, show_end, on_command, on_heard, on_event, machine}
use Rattle.model.specs.Session.{StandsFor, Replies}
use Rattle.model.proofs.Order.{sorted_listed}
use Rattle.model.proofs.Range.{valid_in_table}
use Rattle.model.proofs.Memory.{length_memory, set_cursor, low_laid, high_laid}
use Rattle.model.proofs.Shown.{found_step, step_shows, step_done, goes_on, shows_all}

pub overwrite_all : (m ws : List ℕ) → length m ≡ length ws → overwrite m ws ≡ ws
unfolding overwrite
overwrite_all [] [] e = refl
overwrite_all [] (w ∷ ws) e = absurd (omega arith)
overwrite_all (m ∷ ms) [] e = absurd (omega arith)
overwrite_all (m ∷ ms) (w ∷ ws) e = ap (λ (vs : List ℕ). w ∷ vs) (overwrite_all ms ws (omega arith))

-- a command's run, in a memory that then holds n, h and as₁
abbrev Ends : (Command → Bool) → List ℕ → Event → List (List ℕ) → ℕ → ℕ → Abstract → List Alarm → Type 0
Ends known m ev rows reply n h as₁ = (s : ℕ) × (c : ℕ) × (run_machine s (machine known) m ev [] ≡ ran (memory_of c n h as₁) rows reply)

-- a step that refuses
step_refused : (known : Command → Bool) (m m₁ : List ℕ) (ev : Event) (ss : List (List ℕ)) (k : ℕ) → 1 ≤ k → k < 1000 → on_event known m ev ≡ stepped m₁ (refused k) →
    run_machine 1 (machine known) m ev ss ≡ ran m₁ ss k
unfolding run_machine one_act
step_refused known m m₁ ev ss k l h e = let f : refusal_end k ≡ k = grind (arith, nat_tests) in rw (e, f) refl

-- what showing a variable's end does
end_unreached : (c n : ℕ) (as₁ : List Alarm) (x : ℕ) → x < n → show_end (memory_of c n unreached as₁) x ≡ stepped (memory_of c n unreached as₁) done
unfolding show_end memory_of
end_unreached c n as₁ x h = rw (lt-ltb x n h) refl

end_refused : (c n : ℕ) (h : Abstract) (as₁ : List Alarm) (x : ℕ) → n ≤ x → show_end (memory_of c n h as₁) x ≡ stepped (memory_of c n h as₁) (refused 3)
unfolding show_end memory_of
end_refused c n h as₁ x l = rw (le-ltb x n l) refl

pub shows_bounds : (m : List ℕ) (x : ℕ) → x < get_or m 0 0 → get_or m 1 0 ≡ 0 → show_end m x ≡ stepped (set m 2 slots) (shows (bounds_row m x))
unfolding show_end
shows_bounds m x h e = rw (lt-ltb x (get_or m 0 0) h, e) refl

end_reached : (c n : ℕ) (w : Env) (as₁ : List Alarm) (x : ℕ) → x < n → x < 64 →
    show_end (memory_of c n (reached w) as₁) x ≡ stepped (memory_of slots n (reached w) as₁) (shows (eight (nth_interval w.values x).lo ++ eight (nth_interval w.values x).hi))
end_reached c n w as₁ x h l =
    shows_bounds (memory_of c n (reached w) as₁) x (unfold memory_of in h) (unfold memory_of in refl)
    ∙ rw (set_cursor c slots n (reached w) as₁, low_laid c n w as₁ x l, high_laid c n w as₁ x l) refl

-- the run of a command that shows a variable's end
runs_end : (known : Command → Bool) (c n : ℕ) (h : Abstract) (as₁ : List Alarm) (x : ℕ) (ev : Event) → x < n → x < 64 → on_event known (memory_of c n h as₁) ev ≡ show_end (memory_of c n h as₁) x →
    Ends known (memory_of c n h as₁) ev (end_interval h x) 0 n h as₁
unfolding end_interval
runs_end known c n unreached as₁ x ev l k e = (1, c, step_done known (memory_of c n unreached as₁) (memory_of c n unreached as₁) ev [] (e ∙ end_unreached c n as₁ x l))
runs_end known c n (reached w) as₁ x ev l k e = (
  2,
  slots,
  step_shows known 1 (memory_of c n (reached w) as₁) (memory_of slots n (reached w) as₁) ev [] _ (e ∙ end_reached c n w as₁ x l k)
      ∙ step_done known (memory_of slots n (reached w) as₁) (memory_of slots n (reached w) as₁) next _ (goes_on known n (reached w) as₁ slots 0 refl ∙ nothing_left),
)
  where
    nothing_left : found_step n (reached w) as₁ (first_mark (alarm_table as₁ 0 slots) slots) ≡ stepped (memory_of slots n (reached w) as₁) done
    nothing_left = unfold first_mark alarm_table in refl

-- a run that has ended, as a reply
replied : (known : Command → Bool) (m t : List ℕ) (rows : List (List ℕ)) (reply : ℕ) (p : Program) → valid_program p ≡ true →
    Ends known m (command t) rows reply p.vars (analyse_program p).out (analyse_program p).alarms → Replies (machine known) m t rows reply p
replied known m t rows reply p v (s, c, r) =
    record { steps = s; shown = ap (λ (x : Ran). x.showed) r; ended = ap (λ (x : Ran). x.end) r; after = record { proper = v; cursor = c; is = ap (λ (x : Ran). x.memory) r } }

-- a command that is carried out
carried_out : (known : Command → Bool) (c : ℕ) (p : Program) (t : List ℕ) (a : Command) → valid_program p ≡ true → valid a ≡ true → on_event known (laid c p) (command t) ≡ on_command (laid c p) a →
    Replies (machine known) (laid c p) t (respond p a).shows (respond p a).reply (respond p a).next
unfolding respond on_command valid
carried_out known c p t (load q) v w e =
    let over : overwrite (laid c p) (laid 0 q) ≡ laid 0 q = overwrite_all (laid c p) (laid 0 q) (length_memory c _ _ _ ∙ sym (length_memory 0 _ _ _)) in
    replied known (laid c p) t [] 0 q w (1, 0, step_done known (laid c p) (laid 0 q) (command t) [] (e ∙ ap (λ (m : List ℕ). stepped m done) over))
carried_out known c p t all_alarms v w e =
    rw (sorted_listed slots (analyse_program p).alarms (valid_in_table p v))
    (replied known (laid c p) t _ 0 p v (shows_all known c p.vars (analyse_program p).out (analyse_program p).alarms (command t) e))
carried_out known c p t (at_end x) v w e =
    ⊎_elim
    (λ (l : x < p.vars). rw (lt-ltb x p.vars l)
    (replied known (laid c p) t _ 0 p v (runs_end known c p.vars (analyse_program p).out (analyse_program p).alarms x (command t) l (ltb-true x 64 w) e)))
    (λ (l : p.vars ≤ x). rw (le-ltb x p.vars l)
    (replied known (laid c p) t [] 3 p v (
      1,
      c,
      step_refused known (laid c p) (laid c p) (command t) [] 3 (omega arith) (omega arith)
          (e ∙ end_refused c p.vars (analyse_program p).out (analyse_program p).alarms x l),
    )))
    (cases_lt x p.vars)

-- in any memory that stands for a program
pub answered : (known : Command → Bool) (m : List ℕ) (p : Program) (t : List ℕ) (a : Command) → StandsFor m p → valid a ≡ true → on_event known m (command t) ≡ on_command m a →
    Replies (machine known) m t (respond p a).shows (respond p a).reply (respond p a).next
answered known m p t a st w e =
    subst (λ (m₁ : List ℕ). on_event known m₁ (command t) ≡ on_command m₁ a → Replies (machine known) m₁ t (respond p a).shows (respond p a).reply (respond p a).next)
    (sym st.is) (carried_out known st.cursor p t a st.proper w) e

-- a refusal leaves the memory
pub refuses : (known : Command → Bool) (m : List ℕ) (p : Program) (t : List ℕ) (k : ℕ) → 1 ≤ k → k < 1000 → StandsFor m p →
    on_event known m (command t) ≡ stepped m (refused k) → Replies (machine known) m t [] k p
refuses known m p t k l h st e =
    let r = step_refused known m m (command t) [] k l h e in
    record { steps = 1; shown = ap (λ (x : Ran). x.showed) r; ended = ap (λ (x : Ran). x.end) r; after = subst (λ (m₁ : List ℕ). StandsFor m₁ p) (sym (ap (λ (x : Ran). x.memory) r)) st }

-- what is done with a text that says this
pub on_text : (known : Command → Bool) (m t : List ℕ) (h : Heard) → hear t ≡ h → on_event known m (command t) ≡ on_heard known m h
unfolding on_event
on_text known m t h e = ap (on_heard known m) e

pub on_nothing : (known : Command → Bool) (m t : List ℕ) → hear t ≡ nothing → on_event known m (command t) ≡ stepped m (refused 1)
unfolding on_heard
on_nothing known m t e = on_text known m t nothing e

pub on_known : (known : Command → Bool) (m t : List ℕ) (c : Command) → hear t ≡ heard c → known c ≡ true → on_event known m (command t) ≡ on_command m c
unfolding on_heard
on_known known m t c e k = on_text known m t (heard c) e ∙ rw k refl

pub on_unknown : (known : Command → Bool) (m t : List ℕ) (c : Command) → hear t ≡ heard c → known c ≡ false → on_event known m (command t) ≡ stepped m (refused 2)
unfolding on_heard
on_unknown known m t c e k = on_text known m t (heard c) e ∙ rw k refl

-- one text is answered as it should be, and the memory stands for the program from then on
abbrev Answered : (Command → Bool) → List ℕ → Program → List ℕ → Type 0
Answered known m p t =
    (n : ℕ) × (q : Program) × Answers known p t (run_machine n (machine known) m (command t) []) q × StandsFor (run_machine n (machine known) m (command t) []).memory q

one_known : (known : Command → Bool) (m : List ℕ) (p : Program) (t : List ℕ) (c : Command) (b : Bool) → known c ≡ b → StandsFor m p → hear t ≡ heard c → Hears t (heard c) → Answered known m p t
unfolding Answers Encodes
one_known known m p t c true k st e h =
    let r = answered known m p t c st h.1 (on_known known m t c e k) in
    (r.steps, (respond p c).next, inl (c, h, k, r.ended, r.shown, refl), r.after)
one_known known m p t c false k st e h =
    let r = refuses known m p t 2 (omega arith) (omega arith) st (on_unknown known m t c e k) in
    (r.steps, p, inr (inl (c, h, k, r.ended, r.shown, refl)), r.after)

one_heard : (known : Command → Bool) (m : List ℕ) (p : Program) (t : List ℕ) (h : Heard) → StandsFor m p → hear t ≡ h → Hears t h → Answered known m p t
unfolding Answers Encodes
one_heard known m p t nothing st e h =
    let r = refuses known m p t 1 (omega arith) (omega arith) st (on_nothing known m t e) in
    (r.steps, p, inr (inr (h, r.ended, r.shown, refl)), r.after)
one_heard known m p t (heard c) st e h = one_known known m p t c (known c) refl st e h

-- text after text
pub rightly : (known : Command → Bool) (ts : List (List ℕ)) (m : List ℕ) (p : Program) → StandsFor m p → Right known (machine known) m p ts
unfolding Right ReadsOnly
rightly known [] m p st = refl
rightly known (t ∷ ts) m p st =
    let (n, q, a, st₁) = one_heard known m p t (hear t) st refl (reads_only t) in
    (n, q, a, rightly known ts (run_machine n (machine known) m (command t) []).memory q st₁)
