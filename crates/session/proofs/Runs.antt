-- A command run step by step is the machine's run, however many steps that is given. Rests on what a step does.
use Rattle.std.proofs.Common.{◌≡◌, ℕ, zero, suc, ◌+◌, ◌-◌, ◌<◌, ◌≤◌, Bool, true, cond, ◌&&◌, eqb, leb, ◌⊎◌, List, [], ◌∷◌, ◌++◌, length, get_or, take, drop, sym, refl, ap, ◌∙◌, subst, add-zero, arith, take_at}
use Rattle.std.proofs.lemmas.Bool.Decides.{nat_tests}
use Rattle.std.specs.List.{AllByRecursion as All}
use Rattle.model.specs.Promise.{Event, command, next, Act, shows, done, refused, Machine, Ran, ran, refusal_end, one_act, run_machine}
use Rattle.model.specs.Memory.{memory_size}
use Rattle.model.specs.Entry.{own, event_of, step_fits}
use Rattle.model.proofs.Owed.{fits_is}
use Rattle.tables.specs.declared.types.Told.{Told}
use Rattle.tables.specs.declared.types.Told.TheVariants.{Shows, Done, No}
use Rattle.tables.specs.Telling.{ActTold}
use Rattle.machine.specs.Entry.{StepSays}
use Rattle.session.specs.declared.rows.Row.{Row}
use Rattle.session.specs.Rows.{row_bytes, rows_bytes, Words}
use Rattle.session.specs.Answers.{Ended, Kept}
use Rattle.session.proofs.Steps.{Goes_on, Goes, goes}

-- two runs that have ended are the same
same_act : (go₁ go₂ : List ℕ → List (List ℕ) → Ran) (ss : List (List ℕ)) (m : List ℕ) (a : Act) →
    ((m₁ : List ℕ) (ss₁ : List (List ℕ)) → ((go₁ m₁ ss₁).end ≡ 1000 → ⊥) → ((go₂ m₁ ss₁).end ≡ 1000 → ⊥) → go₁ m₁ ss₁ ≡ go₂ m₁ ss₁) →
    ((one_act go₁ ss m a).end ≡ 1000 → ⊥) → ((one_act go₂ ss m a).end ≡ 1000 → ⊥) → one_act go₁ ss m a ≡ one_act go₂ ss m a
unfolding one_act
same_act go₁ go₂ ss m (shows s) rec h g = rec m (ss ++ s ∷ []) h g
same_act go₁ go₂ ss m done rec h g = refl
same_act go₁ go₂ ss m (refused k) rec h g = refl

pub same_runs : (a b : ℕ) (e : Machine) (m : List ℕ) (ev : Event) (ss : List (List ℕ)) → ((run_machine a e m ev ss).end ≡ 1000 → ⊥) → ((run_machine b e m ev ss).end ≡ 1000 → ⊥) →
    run_machine a e m ev ss ≡ run_machine b e m ev ss
unfolding run_machine
same_runs zero b e m ev ss h g = absurd (h refl)
same_runs (suc a) zero e m ev ss h g = absurd (g refl)
same_runs (suc a) (suc b) e m ev ss h g =
    same_act (λ m₁ ss₁. run_machine a e m₁ next ss₁) (λ m₁ ss₁. run_machine b e m₁ next ss₁) ss (e.step m ev).memory (e.step m ev).act
    (λ m₁ ss₁ h₁ g₁. same_runs a b e m₁ next ss₁ h₁ g₁) h g

-- one step of a run
step_on : (n : ℕ) (m m₁ : List ℕ) (ev : Event) (ss : List (List ℕ)) (row : List ℕ) → m₁ ≡ (own.step m ev).memory → (own.step m ev).act ≡ shows row →
    run_machine (suc n) own m ev ss ≡ run_machine n own m₁ next (ss ++ row ∷ [])
unfolding run_machine one_act
step_on n m m₁ ev ss row e a = rw (e, a) refl

step_over : (m m₁ : List ℕ) (ev : Event) (ss : List (List ℕ)) → m₁ ≡ (own.step m ev).memory → (own.step m ev).act ≡ done → run_machine 1 own m ev ss ≡ ran m₁ ss 0
unfolding run_machine one_act
step_over m m₁ ev ss e a = rw (e, a) refl

step_no : (m m₁ : List ℕ) (ev : Event) (ss : List (List ℕ)) (k : ℕ) → m₁ ≡ (own.step m ev).memory → (own.step m ev).act ≡ refused k → run_machine 1 own m ev ss ≡ ran m₁ ss (refusal_end k)
unfolding run_machine one_act
step_no m m₁ ev ss k e a = rw (e, a) refl

-- the command so far: these rows are shown, and the machine goes on in this memory
pub record SoFar (m₀ text m : List ℕ) (kind : ℕ) (rows : List Row) : Type 0 where
  pub asked : kind ≤ 1
  pub steps : ℕ
  pub runs : (n : ℕ) → run_machine (n + steps) own m₀ (command text) [] ≡ run_machine n own m (event_of kind text) (rows_bytes rows)
  pub kept : Kept m₀ m
  pub words : All Words rows

-- nothing is done yet
pub at_first : (m text : List ℕ) → SoFar m text m 0 []
at_first m text = record { asked = omega arith; steps = 0; runs = λ n. rw (add-zero n) refl; kept = λ p st. st; words = tt }

-- what a step told
abbrev Said : (m : List ℕ) (ev : Event) (a : Act) (m₁ : List ℕ) (n : ℕ) (out₁ : List ℕ) → Type 0
Said m ev a m₁ n out₁ = (row : List ℕ) × (a ≡ shows row) × (take n out₁ ≡ row) × (n ≡ length row) × Goes_on ev m m₁ row

said_row : (m : List ℕ) (ev : Event) (a : Act) (m₁ out out₁ : List ℕ) (n : ℕ) → Goes ev m m₁ a → ActTold a (Shows n) out out₁ → Said m ev a m₁ n out₁
unfolding ActTold
said_row m ev (shows row) m₁ out out₁ n g t =
    let e : n ≡ length row = cc t.0 in
    (row, refl, ap (λ (xs : List ℕ). take n xs) t.1 ∙ take_at row (drop (length row) out) n (sym e), e, g)
said_row m ev done m₁ out out₁ n g t = let z : ◌≡◌ {A = ℕ} 0 1 = cc t.0 in absurd (omega arith)
said_row m ev (refused k) m₁ out out₁ n g t = let z : ◌≡◌ {A = ℕ} 0 1 = cc t.0 in absurd (omega arith)

said_done : (a : Act) (out out₁ : List ℕ) → ActTold a Done out out₁ → a ≡ done
unfolding ActTold
said_done (shows row) out out₁ t = let z : ◌≡◌ {A = ℕ} 0 1 = cc t.0 in absurd (omega arith)
said_done done out out₁ t = refl
said_done (refused k) out out₁ t = let z : ◌≡◌ {A = ℕ} 0 1 = cc t.0 in absurd (omega arith)

said_no : (m : List ℕ) (ev : Event) (a : Act) (m₁ out out₁ : List ℕ) (k : ℕ) → Goes ev m m₁ a → ActTold a (No k) out out₁ → (a ≡ refused k) × (1 ≤ k) × (k < 1000)
unfolding ActTold
said_no m ev (shows row) m₁ out out₁ k g t = let z : ◌≡◌ {A = ℕ} 0 1 = cc t.0 in absurd (omega arith)
said_no m ev done m₁ out out₁ k g t = let z : ◌≡◌ {A = ℕ} 0 1 = cc t.0 in absurd (omega arith)
said_no m ev (refused j) m₁ out out₁ k g t = let e : k ≡ j = cc t.0 in rw e (refl, g.0, g.1)

-- one turn of the loop: a step from what was done so far, and what it told
pub record Turn (m₀ text m : List ℕ) (kind : ℕ) (out : List ℕ) (rows : List Row) (r : Told) (m₁ out₁ : List ℕ) : Type 0 where
  pub far : SoFar m₀ text m kind rows
  pub says : StepSays m kind text out true r m₁ out₁
  pub goes_so : Goes (event_of kind text) m m₁ (own.step m (event_of kind text)).act

-- the step is asked for properly
pub turn : {m₀ text m : List ℕ} {kind : ℕ} {out : List ℕ} {rows : List Row} {r : Told} (m₁ out₁ : List ℕ) → SoFar m₀ text m kind rows → length out ≡ 16 → length m ≡ 22083 →
    StepSays m kind text out (step_fits m kind out) r m₁ out₁ → Turn m₀ text m kind out rows r m₁ out₁
unfolding StepSays
turn {m₀} {text} {m} {kind} {out} {rows} {r} m₁ out₁ f o l s =
    let k = f.asked in
    let e : (eqb (length m) memory_size && (leb kind 1 && leb 16 (length out))) ≡ true = grind (arith, nat_tests) in
    let t : StepSays m kind text out true r m₁ out₁ = subst (λ (b : Bool). StepSays m kind text out b r m₁ out₁) (fits_is m kind out ∙ e) s in
    record { far = f; says = t; goes_so = rw t.0 (goes m (event_of kind text) (omega arith)) }

-- a row that is shown
pub record RowTold (m text m₁ : List ℕ) (kind n : ℕ) (out₁ : List ℕ) : Type 0 where
  pub row : List ℕ
  pub act : (own.step m (event_of kind text)).act ≡ shows row
  pub memory : m₁ ≡ (own.step m (event_of kind text)).memory
  pub is : take n out₁ ≡ row
  pub size : (n ≡ 9) ⊎ (n ≡ 16)
  pub more : Goes_on (event_of kind text) m m₁ row

pub row_told : {m₀ text m : List ℕ} {kind : ℕ} {out : List ℕ} {rows : List Row} {n : ℕ} {m₁ out₁ : List ℕ} → Turn m₀ text m kind out rows (Shows n) m₁ out₁ → RowTold m text m₁ kind n out₁
unfolding StepSays
row_told {m₀} {text} {m} {kind} {out} {rows} {n} {m₁} {out₁} t =
    let ev = event_of kind text in
    let (row, a, i, e, more) = said_row m ev (own.step m ev).act m₁ out out₁ n t.goes_so t.says.1 in
    record { row = row; act = a; memory = t.says.0; is = i; size = rw e more.size; more = more }

-- the cursor comes nearer to the last slot
pub cursor_falls : (m text m₁ : List ℕ) (kind n : ℕ) (out₁ : List ℕ) → kind ≤ 1 → RowTold m text m₁ kind n out₁ →
    10920 - get_or m₁ 2 0 < cond (eqb kind 0) 10921 (10920 - get_or m 2 0)
cursor_falls m text m₁ zero n out₁ k t = omega arith
cursor_falls m text m₁ (suc zero) n out₁ k t = omega (arith, t.more.on refl, t.more.within)
cursor_falls m text m₁ (suc (suc kind)) n out₁ k t = absurd (omega arith)

rows_more : (rs : List Row) (r : Row) → rows_bytes (rs ++ r ∷ []) ≡ rows_bytes rs ++ row_bytes r ∷ []
rows_more [] r = refl
rows_more (q ∷ rs) r = ap (λ (xs : List (List ℕ)). row_bytes q ∷ xs) (rows_more rs r)

words_more : (rs : List Row) (r : Row) → All Words rs → Words r → All Words (rs ++ r ∷ [])
words_more [] r h w = (w, tt)
words_more (q ∷ rs) r h w = (h.0, words_more rs r h.1 w)

-- one row more
pub row_more : (m₀ text m m₁ : List ℕ) (kind n : ℕ) (out₁ : List ℕ) (rows rows₁ : List Row) (r : Row) → SoFar m₀ text m kind rows → RowTold m text m₁ kind n out₁ →
    row_bytes r ≡ take n out₁ → Words r → rows₁ ≡ rows ++ r ∷ [] → SoFar m₀ text m₁ 1 rows₁
row_more m₀ text m m₁ kind n out₁ rows rows₁ r f t e w b =
    record { asked = omega arith; steps = suc f.steps; runs = next-run; kept = λ p st. t.more.kept p (f.kept p st); words = rw b (words_more rows r f.words w) }
  where
    next-run : (j : ℕ) → run_machine (j + suc f.steps) own m₀ (command text) [] ≡ run_machine j own m₁ (event_of 1 text) (rows_bytes rows₁)
    next-run j =
        let a : j + suc f.steps ≡ suc j + f.steps = omega arith in
        rw (a, b, rows_more rows r, e, t.is) (f.runs (suc j) ∙ step_on j m m₁ (event_of kind text) (rows_bytes rows) t.row t.memory t.act)

-- the command ends
pub ended_done : {m₀ text m : List ℕ} {kind : ℕ} {out : List ℕ} {rows : List Row} {m₁ out₁ : List ℕ} → Turn m₀ text m kind out rows Done m₁ out₁ → Ended m₀ text rows 0 m₁
unfolding StepSays
ended_done {m₀} {text} {m} {kind} {out} {rows} {m₁} {out₁} t =
    let ev = event_of kind text in
    record {
      steps = 1 + t.far.steps;
      runs = t.far.runs 1 ∙ step_over m m₁ ev (rows_bytes rows) t.says.0 (said_done (own.step m ev).act out out₁ t.says.1);
      over = omega arith;
      words = t.far.words;
    }

pub ended_no : {m₀ text m : List ℕ} {kind : ℕ} {out : List ℕ} {rows : List Row} {k : ℕ} {m₁ out₁ : List ℕ} → Turn m₀ text m kind out rows (No k) m₁ out₁ → Ended m₀ text rows k m₁
unfolding StepSays
ended_no {m₀} {text} {m} {kind} {out} {rows} {k} {m₁} {out₁} t =
    let ev = event_of kind text in
    let (a, low, high) = said_no m ev (own.step m ev).act m₁ out out₁ k t.goes_so t.says.1 in
    let e : refusal_end k ≡ k = grind (arith, nat_tests) in
    record { steps = 1 + t.far.steps; runs = t.far.runs 1 ∙ step_no m m₁ ev (rows_bytes rows) k t.says.0 a ∙ ap (ran m₁ (rows_bytes rows)) e; over = omega arith; words = t.far.words }
