-- The order of abstract states: it is an order, the test of specs/ says it, and what lies below holds no more. Rests on the relations alone.
use Rattle.std.proofs.Common.{◌≡◌, ℕ, ◌≤◌, true, eqb, List, [], ◌∷◌, length, arith}
use Rattle.std.proofs.lemmas.Bool.Decides.{nat_tests}
use Rattle.std.proofs.lemmas.Bool.{and_parts, eqb-true}
use Rattle.program.specs.Semantics.{State}
use Rattle.interval.specs.Interval.{Interval, within_interval}
use Rattle.analysis.specs.Reach.{unreached, reached, ReachedImplies}
use Rattle.analysis.specs.AbstractState.{Env, Abstract, all_within, within}
use Rattle.analysis.specs.Statements.{same_size}
use Rattle.analysis.proofs.Relations.{Lies, Lie, ArraysLie, Covers, Well}
use Rattle.analysis.proofs.Lists.{all_weaken}

-- the first interval lies within the second
abbrev pub Inside : Interval → Interval → Type 0
Inside a b = (b.lo ≤ a.lo) × (a.hi ≤ b.hi)

-- so one by one
abbrev pub AllInside : List Interval → List Interval → Type 0
AllInside [] [] = Unit {0}
AllInside [] (b ∷ bs) = ⊥
AllInside (a ∷ as₁) [] = ⊥
AllInside (a ∷ as₁) (b ∷ bs) = Inside a b × AllInside as₁ bs

-- so for abstract states, of equal size where both are reached
abbrev pub Below : Abstract → Abstract → Type 0
Below unreached g = Unit {0}
Below (reached w) unreached = ⊥
Below (reached w) (reached v) = AllInside w.values v.values × AllInside w.arrays v.arrays

-- as many variables and arrays
abbrev pub SameSize : Abstract → Abstract → Type 0
SameSize unreached g = Unit {0}
SameSize (reached w) unreached = Unit {0}
SameSize (reached w) (reached v) = (length w.values ≡ length v.values) × (length w.arrays ≡ length v.arrays)

-- v variables and r arrays
abbrev pub Sized : ℕ → ℕ → Env → Type 0
Sized v r w = (length w.values ≡ v) × (length w.arrays ≡ r)

lie_inside : (vs : List ℕ) (as₁ bs : List Interval) → AllInside as₁ bs → Lie vs as₁ → Lie vs bs
lie_inside [] [] [] o h = tt
lie_inside [] [] (b ∷ bs) o h = absurd o
lie_inside [] (a ∷ as₁) bs o h = absurd h
lie_inside (v ∷ vs) [] bs o h = absurd h
lie_inside (v ∷ vs) (a ∷ as₁) [] o h = absurd o
lie_inside (v ∷ vs) (a ∷ as₁) (b ∷ bs) o h = ((omega arith, omega arith), lie_inside vs as₁ bs o.1 h.1)

arrays_inside : (rs : List (List ℕ)) (ns : List ℕ) (as₁ bs : List Interval) → AllInside as₁ bs → ArraysLie rs ns as₁ → ArraysLie rs ns bs
arrays_inside [] [] [] [] o h = tt
arrays_inside [] [] [] (b ∷ bs) o h = absurd o
arrays_inside [] [] (a ∷ as₁) bs o h = absurd h
arrays_inside [] (n ∷ ns) as₁ bs o h = absurd h
arrays_inside (r ∷ rs) [] as₁ bs o h = absurd h
arrays_inside (r ∷ rs) (n ∷ ns) [] bs o h = absurd h
arrays_inside (r ∷ rs) (n ∷ ns) (a ∷ as₁) [] o h = absurd o
arrays_inside (r ∷ rs) (n ∷ ns) (a ∷ as₁) (b ∷ bs) o h =
    (h.0, all_weaken (λ v. Lies v a) (λ v. Lies v b) (λ v l. (omega arith, omega arith)) r h.1, arrays_inside rs ns as₁ bs o.1 h.2)

-- what lies below holds no more
pub covers_below : (ns : List ℕ) (s : State) (h g : Abstract) → Below h g → Covers ns s h → Covers ns s g
covers_below ns s unreached g o c = absurd c
covers_below ns s (reached w) unreached o c = absurd o
covers_below ns s (reached w) (reached v) o c =
    (lie_inside s.values w.values v.values o.0 c.0, arrays_inside s.arrays ns w.arrays v.arrays o.1 c.1)

all_inside_self : (as₁ : List Interval) → AllInside as₁ as₁
all_inside_self [] = tt
all_inside_self (a ∷ as₁) = ((omega arith, omega arith), all_inside_self as₁)

all_inside_trans : (as₁ bs cs : List Interval) → AllInside as₁ bs → AllInside bs cs → AllInside as₁ cs
all_inside_trans [] [] cs o p = p
all_inside_trans [] (b ∷ bs) cs o p = absurd o
all_inside_trans (a ∷ as₁) [] cs o p = absurd o
all_inside_trans (a ∷ as₁) (b ∷ bs) [] o p = absurd p
all_inside_trans (a ∷ as₁) (b ∷ bs) (c ∷ cs) o p = ((omega arith, omega arith), all_inside_trans as₁ bs cs o.1 p.1)

-- each abstract state lies below itself
pub below_self : (h : Abstract) → Below h h
below_self unreached = tt
below_self (reached w) = (all_inside_self w.values, all_inside_self w.arrays)

-- the order is transitive
pub below_trans : (h g k : Abstract) → Below h g → Below g k → Below h k
below_trans unreached g k o p = tt
below_trans (reached w) unreached k o p = absurd o
below_trans (reached w) (reached v) unreached o p = absurd p
below_trans (reached w) (reached v) (reached u) o p =
    (all_inside_trans w.values v.values u.values o.0 p.0, all_inside_trans w.arrays v.arrays u.arrays o.1 p.1)

inside_from_test : (as₁ bs : List Interval) → length as₁ ≡ length bs → all_within as₁ bs ≡ true → AllInside as₁ bs
unfolding all_within
inside_from_test [] [] l e = tt
inside_from_test [] (b ∷ bs) l e = absurd (omega arith)
inside_from_test (a ∷ as₁) [] l e = absurd (omega arith)
inside_from_test (a ∷ as₁) (b ∷ bs) l e =
    let q = and_parts (within_interval a b) (all_within as₁ bs) e in
    let i = q.0 in
    ((grind (arith, nat_tests), grind (arith, nat_tests)), inside_from_test as₁ bs (omega arith) q.1)

-- the test of specs/ says the order, for equal sizes
pub below_from_test : (h g : Abstract) → SameSize h g → within h g ≡ true → Below h g
unfolding within
below_from_test unreached g z e = tt
below_from_test (reached w) unreached z e = grind arith
below_from_test (reached w) (reached v) z e =
    let q = and_parts (all_within w.values v.values) (all_within w.arrays v.arrays) e in
    (inside_from_test w.values v.values z.0 q.0, inside_from_test w.arrays v.arrays z.1 q.1)

-- the test of specs/ says the sizes
pub size_from_test : (h g : Abstract) → same_size h g ≡ true → SameSize h g
unfolding same_size
size_from_test unreached g e = tt
size_from_test (reached w) unreached e = tt
size_from_test (reached w) (reached v) e =
    let q = and_parts (eqb (length w.values) (length v.values)) (eqb (length w.arrays) (length v.arrays)) e in
    (eqb-true (length w.values) (length v.values) q.0, eqb-true (length w.arrays) (length v.arrays) q.1)

-- abstract states of v variables and r arrays have the same size
pub sized_same : (v r : ℕ) (h g : Abstract) → ReachedImplies (Sized v r) h → ReachedImplies (Sized v r) g → SameSize h g
sized_same v r unreached g p q = tt
sized_same v r (reached w) unreached p q = tt
sized_same v r (reached w) (reached u) p q = (omega arith, omega arith)

-- well formed abstract states have the same size
pub well_size : (v r : ℕ) (h g : Abstract) → Well v r h → Well v r g → SameSize h g
well_size v r unreached g p q = tt
well_size v r (reached w) unreached p q = tt
well_size v r (reached w) (reached u) p q = (omega arith, omega arith)
