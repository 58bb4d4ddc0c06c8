-- One step of the machine, by what is asked for. Rests on model's steps, case by case.
use Rattle.std.proofs.Common.{◌≡◌, ℕ, ◌<◌, ◌≤◌, Bool, true, eqb, leb, List, ◌++◌, length, get_or, take, drop, sym, refl, ap, ◌∙◌, subst, arith, append_assoc}
use Rattle.std.proofs.lemmas.List.{length-take-le, take-append-drop, drop-append-le}
use Rattle.std.proofs.lemmas.Bool.{ltb-true, and_from, false_from_ne_true, eq-eqb, le-leb}
use Rattle.program.specs.Command.{Command, all_alarms, at_end, valid}
use Rattle.model.specs.Promise.{Act, shows, done, refused, Event, command, next, Step}
use Rattle.model.specs.Memory.{memory_size, laid}
use Rattle.model.specs.Machine.{stepped, show_from, show_end}
use Rattle.model.specs.Entry.{own, event_of, step_fits}
use Rattle.model.proofs.Rows.{RowShort, step_short}
use Rattle.model.proofs.Owed.{fits_is, step_refused, step_load, step_alarms, step_next, step_end}
use Rattle.reader.specs.declared.load.Header.{Header}
use Rattle.reader.specs.Request.{EncodingOf, Loads}
use Rattle.tables.specs.declared.types.Told.{Told}
use Rattle.tables.specs.declared.types.Told.TheVariants.{Done, No}
use Rattle.tables.specs.Telling.{ActTold, StepTold}
use Rattle.machine.specs.Entry.{StepSays}
use Rattle.tables.proofs.Showing.{told_done, told_refused}

-- what is told of a step is told of the same step
told_same : (s s₁ : Step) (out : List ℕ) (r : Told) (m₁ out₁ : List ℕ) → s ≡ s₁ → StepTold s₁ out r m₁ out₁ → StepTold s out r m₁ out₁
told_same s s₁ out r m₁ out₁ e h = subst (λ (t : Step). StepTold t out r m₁ out₁) (sym e) h

-- a program is loaded
pub obeyed_load : (m text out m₁ : List ℕ) (h : Header) (l : Loads text h) → length m ≡ memory_size → m₁ ≡ laid 0 l.program →
    StepTold (own.step m (command text)) out Done m₁ out
obeyed_load m text out m₁ h l long e =
    told_done (own.step m (command text)) m₁ out (step_load m text l.program l.encoded long ∙ ap (λ (w : List ℕ). stepped w done) (sym e))

-- all alarms are asked for
pub obeyed_alarms : (m text out m₁ out₁ : List ℕ) (r : Told) → EncodingOf all_alarms text → StepTold (show_from m 0) out r m₁ out₁ →
    StepTold (own.step m (command text)) out r m₁ out₁
obeyed_alarms m text out m₁ out₁ r h s = told_same (own.step m (command text)) (show_from m 0) out r m₁ out₁ (step_alarms m text h) s

-- a variable's end is asked for
pub obeyed_end : (m text out m₁ out₁ : List ℕ) (x : ℕ) (r : Told) → EncodingOf (at_end x) text → StepTold (show_end m x) out r m₁ out₁ →
    StepTold (own.step m (command text)) out r m₁ out₁
obeyed_end m text out m₁ out₁ x r h s = told_same (own.step m (command text)) (show_end m x) out r m₁ out₁ (step_end m text x h) s

pub variable_small : (text : List ℕ) (x : ℕ) → EncodingOf (at_end x) text → x < 64
unfolding valid
variable_small text x h = ltb-true x 64 h.1

-- no command
pub obeyed_nothing : (m text out : List ℕ) → ((c : Command) → EncodingOf c text → ⊥) → StepTold (own.step m (command text)) out (No 1) m out
obeyed_nothing m text out h = told_refused (own.step m (command text)) m out 1 (step_refused m text (λ a e. absurd (h a e)))

-- the last command goes on
pub gone_on : (m out m₁ out₁ : List ℕ) (r : Told) → StepTold (show_from m (get_or m 2 0)) out r m₁ out₁ → StepTold (own.step m next) out r m₁ out₁
gone_on m out m₁ out₁ r s = told_same (own.step m next) (show_from m (get_or m 2 0)) out r m₁ out₁ (step_next m) s

-- a row of sixteen bytes at the front of those that are lent
act_wide : (a : Act) (out row₁ : List ℕ) (r : Told) → 16 ≤ length out → RowShort a → ActTold a r (take 16 out) row₁ → ActTold a r out (row₁ ++ drop 16 out)
unfolding ActTold
act_wide (shows s) out row₁ r room short h = (
  h.0,
  ap (λ (xs : List ℕ). xs ++ drop 16 out) h.1 ∙ append_assoc s (drop (length s) (take 16 out)) (drop 16 out)
      ∙ ap (λ (xs : List ℕ). s ++ xs) (sym (drop-append-le (length s) (take 16 out) (drop 16 out) (omega (arith, short, length-take-le 16 out room))) ∙ ap (λ (xs : List ℕ). drop (length s) xs) (take-append-drop 16 out)),
)
act_wide done out row₁ r room short h = (h.0, ap (λ (xs : List ℕ). xs ++ drop 16 out) h.1 ∙ take-append-drop 16 out)
act_wide (refused k) out row₁ r room short h = (h.0, ap (λ (xs : List ℕ). xs ++ drop 16 out) h.1 ∙ take-append-drop 16 out)

-- a step that is asked for properly
pub says_fit : (m : List ℕ) (kind : ℕ) (text out words row : List ℕ) (e : Event) (r : Told) (m₁ row₁ : List ℕ) → length m ≡ memory_size → words ≡ m → kind ≤ 1 → event_of kind text ≡ e →
    16 ≤ length out → row ≡ take 16 out → StepTold (own.step words e) row r m₁ row₁ → StepSays m kind text out (step_fits m kind out) r m₁ (row₁ ++ drop 16 out)
unfolding StepSays
says_fit m kind text out words row e r m₁ row₁ long same small is room front h =
    let fits : step_fits m kind out ≡ true = fits_is m kind out ∙ and_from (eqb (length m) memory_size) _ (eq-eqb (length m) memory_size long) (and_from (leb kind 1) (leb 16 (length out)) (le-leb kind 1 small) (le-leb 16 (length out) room)) in
    let at : StepTold (own.step m (event_of kind text)) (take 16 out) r m₁ row₁ =
    subst (λ (ws : List ℕ). StepTold (own.step ws (event_of kind text)) (take 16 out) r m₁ row₁) same
    (subst (λ (f : Event). StepTold (own.step words f) (take 16 out) r m₁ row₁) (sym is) (subst (λ (xs : List ℕ). StepTold (own.step words e) xs r m₁ row₁) front h)) in
    subst (λ (b : Bool). StepSays m kind text out b r m₁ (row₁ ++ drop 16 out)) (sym fits)
    (at.0, act_wide (own.step m (event_of kind text)).act out row₁ r room (step_short m (event_of kind text)) at.1)

-- one that is not
pub says_unfit : (m : List ℕ) (kind : ℕ) (text out m₁ out₁ : List ℕ) → (step_fits m kind out ≡ true → ⊥) → m₁ ≡ m → out₁ ≡ out → StepSays m kind text out (step_fits m kind out) (No 0) m₁ out₁
unfolding StepSays
says_unfit m kind text out m₁ out₁ h e f = subst (λ (b : Bool). StepSays m kind text out b (No 0) m₁ out₁) (sym (false_from_ne_true (step_fits m kind out) h)) (refl, e, f)

-- the row put back as it was
pub row_back : (out row : List ℕ) → row ≡ take 16 out → row ++ drop 16 out ≡ out
row_back out row e = ap (λ (xs : List ℕ). xs ++ drop 16 out) e ∙ take-append-drop 16 out
