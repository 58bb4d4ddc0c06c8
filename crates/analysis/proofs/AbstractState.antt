-- Reading and changing one variable or one array, of a state and of the environment that it lies in together.
-- Rests on the relations alone; look-ups are total, so no index has to be in range.
use Rattle.std.proofs.Common.{◌≡◌, ℕ, zero, suc, ◌<◌, List, [], ◌∷◌, length, get_or, set, refl, ◌∙◌, arith, length-set}
use Rattle.std.proofs.lemmas.Bool.Decides.{nat_tests}
use Rattle.program.specs.Semantics.{nth_array}
use Rattle.interval.specs.Interval.{Interval, join_interval, meet}
use Rattle.analysis.specs.AbstractState.{nth_interval}
use Rattle.analysis.proofs.Relations.{Lies, All, Lie, ArraysLie, Proper}
use Rattle.analysis.proofs.Lists.{all_weaken, all_at, all_set}
use Rattle.analysis.proofs.Arithmetic.{zero_proper}

-- a join of intervals holds what the first holds
pub join_interval_left : (a b : Interval) (n : ℕ) → Lies n a → Lies n (join_interval a b)
join_interval_left a b n h = grind (arith, nat_tests)

-- and what the second holds
pub join_interval_right : (a b : Interval) (n : ℕ) → Lies n b → Lies n (join_interval a b)
join_interval_right a b n h = grind (arith, nat_tests)

-- what lies in both lies in what they share
pub meet_lies : (a b : Interval) (n : ℕ) → Lies n a → Lies n b → Lies n (meet a b)
meet_lies a b n h k = grind (arith, nat_tests)

-- a variable's value lies in its interval
pub nth_lies : (vs : List ℕ) (ss : List Interval) (x : ℕ) → Lie vs ss → Lies (get_or vs x 0) (nth_interval ss x)
unfolding nth_interval
nth_lies [] [] x h = (omega arith, omega arith)
nth_lies [] (a ∷ ss) x h = absurd h
nth_lies (v ∷ vs) [] x h = absurd h
nth_lies (v ∷ vs) (a ∷ ss) zero h = h.0
nth_lies (v ∷ vs) (a ∷ ss) (suc x) h = nth_lies vs ss x h.1

-- a variable gets a value, and the interval in which it lies
pub set_lies : (vs : List ℕ) (ss : List Interval) (x n : ℕ) (a : Interval) → Lie vs ss → Lies n a → Lie (set vs x n) (set ss x a)
set_lies [] [] x n a h k = tt
set_lies [] (b ∷ ss) x n a h k = absurd h
set_lies (v ∷ vs) [] x n a h k = absurd h
set_lies (v ∷ vs) (b ∷ ss) zero n a h k = (k, h.1)
set_lies (v ∷ vs) (b ∷ ss) (suc x) n a h k = (h.0, set_lies vs ss x n a h.1 k)

-- a variable keeps its value, and gets another interval in which that lies
pub cut_lies : (vs : List ℕ) (ss : List Interval) (x : ℕ) (a : Interval) → Lie vs ss → Lies (get_or vs x 0) a → Lie vs (set ss x a)
cut_lies [] [] x a h k = tt
cut_lies [] (b ∷ ss) x a h k = absurd h
cut_lies (v ∷ vs) [] x a h k = absurd h
cut_lies (v ∷ vs) (b ∷ ss) zero a h k = (k, h.1)
cut_lies (v ∷ vs) (b ∷ ss) (suc x) a h k = (h.0, cut_lies vs ss x a h.1 k)

-- an array is as long as declared
pub array_length : (rs : List (List ℕ)) (ns : List ℕ) (ss : List Interval) (r : ℕ) → ArraysLie rs ns ss → length (nth_array rs r) ≡ get_or ns r 0
unfolding nth_array
array_length [] [] ss r h = refl
array_length [] (n ∷ ns) ss r h = absurd h
array_length (a ∷ rs) [] ss r h = absurd h
array_length (a ∷ rs) (n ∷ ns) [] r h = absurd h
array_length (a ∷ rs) (n ∷ ns) (b ∷ ss) zero h = h.0
array_length (a ∷ rs) (n ∷ ns) (b ∷ ss) (suc r) h = array_length rs ns ss r h.2

-- an element lies in its array's interval
pub element_lies : (rs : List (List ℕ)) (ns : List ℕ) (ss : List Interval) (r i : ℕ) → ArraysLie rs ns ss → i < length (nth_array rs r) →
    Lies (get_or (nth_array rs r) i 0) (nth_interval ss r)
unfolding nth_array nth_interval
element_lies [] ns ss r i h l = absurd (omega arith)
element_lies (a ∷ rs) [] ss r i h l = absurd h
element_lies (a ∷ rs) (n ∷ ns) [] r i h l = absurd h
element_lies (a ∷ rs) (n ∷ ns) (b ∷ ss) zero i h l = all_at (λ v. Lies v b) a i 0 h.1 l
element_lies (a ∷ rs) (n ∷ ns) (b ∷ ss) (suc r) i h l = element_lies rs ns ss r i h.2 l

-- an element gets a value: its array's interval is joined with one in which that lies
pub store_lies : (rs : List (List ℕ)) (ns : List ℕ) (ss : List Interval) (r i v : ℕ) (b : Interval) → ArraysLie rs ns ss → Lies v b →
    ArraysLie (set rs r (set (nth_array rs r) i v)) ns (set ss r (join_interval (nth_interval ss r) b))
unfolding nth_array nth_interval
store_lies [] [] [] r i v b h k = tt
store_lies [] [] (a ∷ ss) r i v b h k = absurd h
store_lies [] (n ∷ ns) ss r i v b h k = absurd h
store_lies (a ∷ rs) [] ss r i v b h k = absurd h
store_lies (a ∷ rs) (n ∷ ns) [] r i v b h k = absurd h
store_lies (a ∷ rs) (n ∷ ns) (c ∷ ss) zero i v b h k = (
  length-set a i v ∙ h.0,
  all_set (λ u. Lies u (join_interval c b)) a i v (all_weaken (λ u. Lies u c) (λ u. Lies u (join_interval c b)) (λ u. join_interval_left c b u) a h.1) (join_interval_right c b v k),
  h.2,
)
store_lies (a ∷ rs) (n ∷ ns) (c ∷ ss) (suc r) i v b h k = (h.0, h.1, store_lies rs ns ss r i v b h.2 k)

-- every interval that is looked up among proper ones is proper
pub nth_proper : (ss : List Interval) (x : ℕ) → All Proper ss → Proper (nth_interval ss x)
unfolding nth_interval
nth_proper [] x h = zero_proper
nth_proper (a ∷ ss) zero h = h.0
nth_proper (a ∷ ss) (suc x) h = nth_proper ss x h.1
