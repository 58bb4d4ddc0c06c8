-- How a program's memory is put together: the table from alarms that are marked one by one, the bounds from intervals, the whole from its parts.
use Rattle.std.proofs.Common.{◌≡◌, ℕ, zero, suc, ◌+◌, ◌-◌, ◌*◌, ◌<◌, ◌≤◌, Bool, true, false, ◌&&◌, ◌||◌, eqb, List, [], ◌∷◌, ◌++◌, length, get_or, take, drop, set, refl, ◌∙◌, append-nil, arith, take-append-drop, drop-drop}
use lib.Seq.{drop-set-add, take-set-lt}
use Rattle.std.proofs.lemmas.Bool.{eq-eqb, ne_eqb}
use Rattle.program.specs.Basics.{flat_map}
use Rattle.interval.specs.Interval.{Interval, interval}
use Rattle.analysis.specs.Reach.{Alarm}
use Rattle.analysis.specs.AbstractState.{Abstract}
use Rattle.analysis.specs.Concretisation.{has_alarm}
use Rattle.analysis.proofs.Relations.{All}
use Rattle.model.specs.Memory.{slots, scratch, memory_size, zeros, bounds, end_bounds, no_end, slot_stmt, slot_kind, slot, alarm_table, mark_alarms, memory_of}
use Rattle.model.specs.Machine.{table_of}
use Rattle.model.proofs.Order.{InTable, same_slot}
use Rattle.model.proofs.Start.{bounds_zeros, table_zeros}

-- the table depends on which alarms there are, not on their order
table_same : (as₁ bs : List Alarm) → ((d k : ℕ) → has_alarm as₁ d k ≡ has_alarm bs d k) → (n i : ℕ) → alarm_table as₁ n i ≡ alarm_table bs n i
unfolding alarm_table
table_same as₁ bs h zero i = refl
table_same as₁ bs h (suc n) i = rw (h (slot_stmt i) (slot_kind i), table_same as₁ bs h n (suc i)) refl

-- an alarm of an earlier slot changes nothing behind it
table_later : (m : ℕ) (a : Alarm) (as₁ : List Alarm) (n i : ℕ) → InTable m a → slot a < i → alarm_table (a ∷ as₁) n i ≡ alarm_table as₁ n i
unfolding alarm_table
table_later m a as₁ zero i t h = refl
table_later m a as₁ (suc n) i t h = rw (same_slot m a i t, ne_eqb (slot a) i (omega arith), table_later m a as₁ n (suc i) t (omega arith)) refl

-- one alarm more, j slots behind the i-th
mark_one : (m : ℕ) (a : Alarm) (as₁ : List Alarm) (n i j : ℕ) → InTable m a → slot a ≡ i + j → j < n → set (alarm_table as₁ n i) j 1 ≡ alarm_table (a ∷ as₁) n i
unfolding alarm_table
mark_one m a as₁ zero i j t e h = absurd (omega arith)
mark_one m a as₁ (suc n) i zero t e h = rw (same_slot m a i t, eq-eqb (slot a) i (omega arith), table_later m a as₁ n (suc i) t (omega arith)) refl
mark_one m a as₁ (suc n) i (suc j) t e h = rw (same_slot m a i t, ne_eqb (slot a) i (omega arith), mark_one m a as₁ n (suc i) j t (omega arith) (omega arith)) refl

or_regroup : (b x y z : Bool) → x ≡ (y || z) → (b || x) ≡ ((b || y) || z)
or_regroup true x y z e = refl
or_regroup false x y z e = e

or_swap : (b x y : Bool) → (b || (x || y)) ≡ (x || (b || y))
or_swap true true y = refl
or_swap true false y = refl
or_swap false true y = refl
or_swap false false y = refl

has_append : (as₁ bs : List Alarm) (d k : ℕ) → has_alarm (as₁ ++ bs) d k ≡ (has_alarm as₁ d k || has_alarm bs d k)
has_append [] bs d k = refl
has_append (a ∷ as₁) bs d k = or_regroup (eqb a.stmt d && eqb a.kind k) (has_alarm (as₁ ++ bs) d k) (has_alarm as₁ d k) (has_alarm bs d k) (has_append as₁ bs d k)

-- an alarm in front or in the middle
has_moved : (a : Alarm) (as₁ bs : List Alarm) (d k : ℕ) → has_alarm (a ∷ (bs ++ as₁)) d k ≡ has_alarm (bs ++ a ∷ as₁) d k
has_moved a as₁ bs d k =
    rw (has_append bs as₁ d k, has_append bs (a ∷ as₁) d k) (or_swap (eqb a.stmt d && eqb a.kind k) (has_alarm bs d k) (has_alarm as₁ d k))

-- alarms marked in a table of others
pub marks_table : (n : ℕ) (as₁ bs : List Alarm) → All (InTable n) as₁ → mark_alarms as₁ (alarm_table bs n 0) ≡ alarm_table (bs ++ as₁) n 0
unfolding mark_alarms
marks_table n [] bs h = rw (append-nil bs) refl
marks_table n (a ∷ as₁) bs h =
    rw (mark_one n a bs n 0 (slot a) h.0 (omega arith) (omega arith)) (marks_table n as₁ (a ∷ bs) h.1 ∙ table_same (a ∷ (bs ++ as₁)) (bs ++ a ∷ as₁) (has_moved a as₁ bs) n 0)

-- alarms marked in a cleared table
pub marks_cleared : (n : ℕ) (as₁ : List Alarm) → All (InTable n) as₁ → mark_alarms as₁ (zeros n) ≡ alarm_table as₁ n 0
marks_cleared n as₁ h = rw (← table_zeros n 0) (marks_table n as₁ [] h)

pub marks_append : (as₁ bs : List Alarm) (t : List ℕ) → mark_alarms (as₁ ++ bs) t ≡ mark_alarms bs (mark_alarms as₁ t)
unfolding mark_alarms
marks_append [] bs t = refl
marks_append (a ∷ as₁) bs t = marks_append as₁ bs (set t (slot a) 1)

-- a slot in the whole memory
pub set_slot : (m : List ℕ) (i v : ℕ) → i < slots → table_of (set m (163 + i) v) ≡ set (table_of m) i v
set_slot m i v h = rw (drop-set-add 163 m i v) (take-set-lt slots (drop 163 m) i v h)

-- an interval's two words
abbrev pub two_words : Interval → List ℕ
two_words s = s.lo ∷ s.hi ∷ []

-- the bounds are the intervals' words, then zeros
pub bounds_words : (k : ℕ) (ss : List Interval) → length ss ≤ k → bounds k ss ≡ flat_map two_words ss ++ zeros (2 * (k - length ss))
unfolding bounds
bounds_words k [] h = let e : k - 0 ≡ k = omega arith in rw (e, bounds_zeros k) refl
bounds_words zero (s ∷ ss) h = absurd (omega arith)
bounds_words (suc k) (s ∷ ss) h = let e : suc k - suc (length ss) ≡ k - length ss = omega arith in rw (e, bounds_words k ss (omega arith)) refl

-- one interval's words written
pub bounds_set : (k : ℕ) (ss : List Interval) (x lo hi : ℕ) → x < length ss → length ss ≤ k → set (set (bounds k ss) (2 * x) lo) (suc (2 * x)) hi ≡ bounds k (set ss x (interval lo hi))
unfolding bounds
bounds_set k [] x lo hi h l = absurd (omega arith)
bounds_set zero (s ∷ ss) x lo hi h l = absurd (omega arith)
bounds_set (suc k) (s ∷ ss) zero lo hi h l = refl
bounds_set (suc k) (s ∷ ss) (suc x) lo hi h l = let e : 2 * suc x ≡ suc (suc (2 * x)) = omega arith in rw (e, bounds_set k ss x lo hi (omega arith) (omega arith)) refl

-- a list from three parts of it
three_parts : (i k : ℕ) (m us vs ws : List ℕ) → take i m ≡ us → take k (drop i m) ≡ vs → drop (i + k) m ≡ ws → m ≡ us ++ (vs ++ ws)
three_parts i k m us vs ws e f g =
    let a = take-append-drop i m in
    let b = take-append-drop k (drop i m) in
    let c = drop-drop k i m in
    cc

-- the whole from its parts
pub memory_parts : (m : List ℕ) (c n : ℕ) (h : Abstract) (as₁ : List Alarm) → length m ≡ memory_size → get_or m 0 0 ≡ n → get_or m 1 0 ≡ no_end h → get_or m 2 0 ≡ c →
    take 160 (drop 3 m) ≡ end_bounds h → table_of m ≡ alarm_table as₁ slots 0 → drop 11083 m ≡ zeros scratch → m ≡ memory_of c n h as₁
unfolding memory_of
memory_parts [] c n h as₁ l p q r eb et es = absurd (omega arith)
memory_parts (x ∷ []) c n h as₁ l p q r eb et es = absurd (omega arith)
memory_parts (x ∷ y ∷ []) c n h as₁ l p q r eb et es = absurd (omega arith)
memory_parts (x ∷ y ∷ z ∷ m) c n h as₁ l p q r eb et es =
    let s = three_parts 160 slots m (end_bounds h) (alarm_table as₁ slots 0) (zeros scratch) eb et es in
    λ i. p i ∷ q i ∷ r i ∷ s i
