-- The memory of a program, word by word: its length, its cursor, its bounds and its table.
use Rattle.std.proofs.Common.{◌≡◌, ℕ, zero, suc, ◌+◌, ◌*◌, ◌<◌, List, [], ◌∷◌, ◌++◌, length, get_or, drop, set, refl, ap, ◌∙◌, arith, length-append, take_at, drop_at}
use lib.ListN.{length-replicate, get_or-append, replicate-append-replicate}
use Rattle.interval.specs.Interval.{Interval}
use Rattle.analysis.specs.Reach.{unreached, reached, Alarm}
use Rattle.analysis.specs.AbstractState.{Env, Abstract, nth_interval}
use Rattle.model.specs.Memory.{slots, scratch, memory_size, zeros, bounds, end_bounds, alarm_table, memory_of}
use Rattle.model.specs.Machine.{table_of}

pub length_zeros : (n : ℕ) → length (zeros n) ≡ n
unfolding zeros
length_zeros n = length-replicate n 0

pub zeros_append : (n m : ℕ) → zeros n ++ zeros m ≡ zeros (n + m)
unfolding zeros
zeros_append n m = replicate-append-replicate n m 0

pub length_bounds : (k : ℕ) (ss : List Interval) → length (bounds k ss) ≡ 2 * k
unfolding bounds
length_bounds zero ss = refl
length_bounds (suc k) [] = let e = length_bounds k [] in omega arith
length_bounds (suc k) (s ∷ ss) = let e = length_bounds k ss in omega arith

pub length_ends : (h : Abstract) → length (end_bounds h) ≡ 160
unfolding end_bounds
length_ends unreached = rw (length-append (bounds 64 []) (bounds 16 []), length_bounds 64 [], length_bounds 16 []) refl
length_ends (reached w) = rw (length-append (bounds 64 w.values) (bounds 16 w.arrays), length_bounds 64 w.values, length_bounds 16 w.arrays) refl

pub length_table : (as₁ : List Alarm) (n i : ℕ) → length (alarm_table as₁ n i) ≡ n
unfolding alarm_table
length_table as₁ zero i = refl
length_table as₁ (suc n) i = ap suc (length_table as₁ n (suc i))

pub length_memory : (c n : ℕ) (h : Abstract) (as₁ : List Alarm) → length (memory_of c n h as₁) ≡ memory_size
unfolding memory_of
length_memory c n h as₁ =
    rw (length-append (end_bounds h) (alarm_table as₁ slots 0 ++ zeros scratch), length-append (alarm_table as₁ slots 0) (zeros scratch), length_ends h, length_table as₁ slots 0, length_zeros scratch) refl

-- the cursor moved
pub set_cursor : (c d n : ℕ) (h : Abstract) (as₁ : List Alarm) → set (memory_of c n h as₁) 2 d ≡ memory_of d n h as₁
unfolding memory_of
set_cursor c d n h as₁ = refl

-- the table in its place
pub table_laid : (c n : ℕ) (h : Abstract) (as₁ : List Alarm) → table_of (memory_of c n h as₁) ≡ alarm_table as₁ slots 0
unfolding memory_of
table_laid c n h as₁ =
    rw (drop_at (end_bounds h) (alarm_table as₁ slots 0 ++ zeros scratch) 160 (length_ends h)) (take_at (alarm_table as₁ slots 0) (zeros scratch) slots (length_table as₁ slots 0))

-- the table from slot j on
pub drop_table : (as₁ : List Alarm) (j k n i : ℕ) → j + k ≡ n → drop j (alarm_table as₁ n i) ≡ alarm_table as₁ k (j + i)
unfolding alarm_table
drop_table as₁ zero k n i e = let f : n ≡ k = omega arith in let g : 0 + i ≡ i = omega arith in rw (f, g) refl
drop_table as₁ (suc j) k zero i e = absurd (omega arith)
drop_table as₁ (suc j) k (suc n) i e = let f : j + suc i ≡ suc j + i = omega arith in rw (← f) (drop_table as₁ j k n (suc i) (omega arith))

-- a variable's bounds in their place
pub low_at : (k : ℕ) (ss : List Interval) (x : ℕ) → x < k → get_or (bounds k ss) (2 * x) 0 ≡ (nth_interval ss x).lo
unfolding bounds nth_interval
low_at zero ss x h = absurd (omega arith)
low_at (suc k) [] zero h = refl
low_at (suc k) [] (suc x) h = let e : 2 * suc x ≡ suc (suc (2 * x)) = omega arith in rw e (low_at k [] x (omega arith))
low_at (suc k) (s ∷ ss) zero h = refl
low_at (suc k) (s ∷ ss) (suc x) h = let e : 2 * suc x ≡ suc (suc (2 * x)) = omega arith in rw e (low_at k ss x (omega arith))

pub high_at : (k : ℕ) (ss : List Interval) (x : ℕ) → x < k → get_or (bounds k ss) (suc (2 * x)) 0 ≡ (nth_interval ss x).hi
unfolding bounds nth_interval
high_at zero ss x h = absurd (omega arith)
high_at (suc k) [] zero h = refl
high_at (suc k) [] (suc x) h = let e : 2 * suc x ≡ suc (suc (2 * x)) = omega arith in rw e (high_at k [] x (omega arith))
high_at (suc k) (s ∷ ss) zero h = refl
high_at (suc k) (s ∷ ss) (suc x) h = let e : 2 * suc x ≡ suc (suc (2 * x)) = omega arith in rw e (high_at k ss x (omega arith))

-- a word of the bounds in the whole memory
in_bounds : (c n : ℕ) (w : Env) (as₁ : List Alarm) (i : ℕ) → i < 128 → get_or (memory_of c n (reached w) as₁) (suc (suc (suc i))) 0 ≡ get_or (bounds 64 w.values) i 0
unfolding memory_of end_bounds
in_bounds c n w as₁ i h =
    let l : length (end_bounds (reached w)) ≡ 160 = length_ends (reached w) in
    let k : length (bounds 64 w.values) ≡ 2 * 64 = length_bounds 64 w.values in
    get_or-append (end_bounds (reached w)) (alarm_table as₁ slots 0 ++ zeros scratch) 0 i (omega arith)
    ∙ get_or-append (bounds 64 w.values) (bounds 16 w.arrays) 0 i (omega arith)

pub low_laid : (c n : ℕ) (w : Env) (as₁ : List Alarm) (x : ℕ) → x < 64 → get_or (memory_of c n (reached w) as₁) (3 + 2 * x) 0 ≡ (nth_interval w.values x).lo
low_laid c n w as₁ x h =
    let e : 3 + 2 * x ≡ suc (suc (suc (2 * x))) = omega arith in
    rw (e, in_bounds c n w as₁ (2 * x) (omega arith)) (low_at 64 w.values x h)

pub high_laid : (c n : ℕ) (w : Env) (as₁ : List Alarm) (x : ℕ) → x < 64 → get_or (memory_of c n (reached w) as₁) (4 + 2 * x) 0 ≡ (nth_interval w.values x).hi
high_laid c n w as₁ x h =
    let e : 4 + 2 * x ≡ suc (suc (suc (suc (2 * x)))) = omega arith in
    rw (e, in_bounds c n w as₁ (suc (2 * x)) (omega arith)) (high_at 64 w.values x h)
