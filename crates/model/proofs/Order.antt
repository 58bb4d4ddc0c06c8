-- A program's alarms in order are the marked slots of its table, one after another.
use Rattle.std.proofs.Common.{◌≡◌, ℕ, zero, suc, ◌+◌, ◌<◌, ◌≤◌, Bool, true, false, cond, ◌&&◌, eqb, ltb, List, [], ◌∷◌, sym, refl, ⊎_elim, arith}
use Rattle.std.proofs.lemmas.Bool.Decides.{nat_tests}
use Rattle.std.proofs.lemmas.Bool.{eq-eqb, ne_eqb, cases_eq}
use Rattle.analysis.specs.Reach.{Alarm}
use Rattle.analysis.specs.Concretisation.{has_alarm}
use Rattle.analysis.specs.Respond.{alarm_before, insert_alarm, sort_alarms}
use Rattle.analysis.proofs.Relations.{All}
use Rattle.model.specs.Memory.{slot_stmt, slot_kind, slot}

-- the alarm of a slot
abbrev pub alarm_of : ℕ → Alarm
alarm_of i = record { stmt = slot_stmt i; kind = slot_kind i }

-- an alarm that has one of the first n slots
abbrev pub InTable : ℕ → Alarm → Type 0
InTable n a = (1 ≤ a.stmt) × (1 ≤ a.kind) × (a.kind ≤ 4) × (slot a < n)

-- there is an alarm of slot i
abbrev pub marked : List Alarm → ℕ → Bool
marked as₁ i = has_alarm as₁ (slot_stmt i) (slot_kind i)

-- the marked ones among n slots from the i-th on
unfoldable pub listed : List Alarm → ℕ → ℕ → List Alarm
listed as₁ zero i = []
listed as₁ (suc n) i = cond (marked as₁ i) (alarm_of i ∷ listed as₁ n (suc i)) (listed as₁ n (suc i))

pub same_slot : (n : ℕ) (a : Alarm) (i : ℕ) → InTable n a → (eqb a.stmt (slot_stmt i) && eqb a.kind (slot_kind i)) ≡ eqb (slot a) i
same_slot n a i h = grind (arith, nat_tests)

before_of : (n : ℕ) (a : Alarm) (i : ℕ) → InTable n a → alarm_before a (alarm_of i) ≡ ltb (slot a) i
before_of n a i h = grind (arith, nat_tests)

after_of : (n : ℕ) (a : Alarm) (i : ℕ) → InTable n a → alarm_before (alarm_of i) a ≡ ltb i (slot a)
after_of n a i h = grind (arith, nat_tests)

alarm_slot : (n : ℕ) (a : Alarm) → InTable n a → alarm_of (slot a) ≡ a
alarm_slot n a h =
    let d : slot_stmt (slot a) ≡ a.stmt = omega arith in
    let k : slot_kind (slot a) ≡ a.kind = omega arith in
    λ i. record { stmt = d i; kind = k i }

-- an alarm of an earlier slot adds nothing to what is listed
listed_later : (n k : ℕ) (a : Alarm) (as₁ : List Alarm) (i : ℕ) → InTable n a → slot a < i → listed (a ∷ as₁) k i ≡ listed as₁ k i
unfolding listed
listed_later n zero a as₁ i t h = refl
listed_later n (suc k) a as₁ i t h =
    let e : eqb (slot a) i ≡ false = grind (arith, nat_tests) in
    rw (same_slot n a i t, e, listed_later n k a as₁ (suc i) t (omega arith)) refl

-- an alarm before slot i is inserted in front, whether slot i is marked or not
insert_before : (n : ℕ) (a : Alarm) (i : ℕ) (b : Bool) (xs : List Alarm) → InTable n a → slot a < i → insert_alarm a xs ≡ a ∷ xs →
    insert_alarm a (cond b (alarm_of i ∷ xs) xs) ≡ a ∷ cond b (alarm_of i ∷ xs) xs
unfolding insert_alarm
insert_before n a i true xs t h e = let f : ltb (slot a) i ≡ true = grind (arith, nat_tests) in rw (before_of n a i t, f) refl
insert_before n a i false xs t h e = e

-- and comes before all of it
insert_first : (n k : ℕ) (a : Alarm) (as₁ : List Alarm) (i : ℕ) → InTable n a → slot a < i → insert_alarm a (listed as₁ k i) ≡ a ∷ listed as₁ k i
unfolding listed insert_alarm
insert_first n zero a as₁ i t h = refl
insert_first n (suc k) a as₁ i t h = insert_before n a i (marked as₁ i) (listed as₁ k (suc i)) t h (insert_first n k a as₁ (suc i) t (omega arith))

-- an alarm of slot i itself
insert_here : (n : ℕ) (a : Alarm) (i : ℕ) (b : Bool) (xs : List Alarm) → InTable n a → slot a ≡ i → insert_alarm a xs ≡ a ∷ xs → insert_alarm a (cond b (alarm_of i ∷ xs) xs) ≡ alarm_of i ∷ xs
unfolding insert_alarm
insert_here n a i true xs t h e =
    let f : ltb (slot a) i ≡ false = grind (arith, nat_tests) in
    let g : ltb i (slot a) ≡ false = grind (arith, nat_tests) in
    rw (before_of n a i t, after_of n a i t, f, g) refl
insert_here n a i false xs t h e = rw (e, ← h, alarm_slot n a t) refl

-- an alarm behind slot i
insert_after : (n : ℕ) (a : Alarm) (i : ℕ) (b : Bool) (xs ys : List Alarm) → InTable n a → i < slot a → insert_alarm a xs ≡ ys → insert_alarm a (cond b (alarm_of i ∷ xs) xs) ≡ cond b (alarm_of i ∷ ys) ys
unfolding insert_alarm
insert_after n a i true xs ys t h e =
    let f : ltb (slot a) i ≡ false = grind (arith, nat_tests) in
    let g : ltb i (slot a) ≡ true = grind (arith, nat_tests) in
    rw (before_of n a i t, after_of n a i t, f, g, e) refl
insert_after n a i false xs ys t h e = e

-- an alarm inserted is listed
insert_listed : (n k : ℕ) (a : Alarm) (as₁ : List Alarm) (i : ℕ) → InTable n a → i ≤ slot a → slot a < i + k → insert_alarm a (listed as₁ k i) ≡ listed (a ∷ as₁) k i
unfolding listed insert_alarm
insert_listed n zero a as₁ i t l h = absurd (omega arith)
insert_listed n (suc k) a as₁ i t l h =
    ⊎_elim
    (λ (e : slot a ≡ i). rw (same_slot n a i t, eq-eqb (slot a) i e, listed_later n k a as₁ (suc i) t (omega arith))
    (insert_here n a i (marked as₁ i) (listed as₁ k (suc i)) t e (insert_first n k a as₁ (suc i) t (omega arith))))
    (λ (e : slot a ≡ i → ⊥). rw (same_slot n a i t, ne_eqb (slot a) i e)
    (insert_after n a i (marked as₁ i) (listed as₁ k (suc i)) (listed (a ∷ as₁) k (suc i)) t (omega arith) (insert_listed n k a as₁ (suc i) t (omega arith) (omega arith))))
    (cases_eq (slot a) i)

listed_none : (n i : ℕ) → listed [] n i ≡ []
unfolding listed
listed_none zero i = refl
listed_none (suc n) i = listed_none n (suc i)

-- alarms that all have one of n slots, in order
pub sorted_listed : (n : ℕ) (as₁ : List Alarm) → All (InTable n) as₁ → sort_alarms as₁ ≡ listed as₁ n 0
unfolding sort_alarms
sorted_listed n [] h = sym (listed_none n 0)
sorted_listed n (a ∷ as₁) h = rw (sorted_listed n as₁ h.1) (insert_listed n n a as₁ 0 h.0 (omega arith) (omega arith))
