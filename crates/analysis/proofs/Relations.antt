-- The statements about abstract states as relations: a state lies in an environment, an environment is well formed;
-- and that the tests of specs/ say the same. Rests on the definitions alone.
use Rattle.std.proofs.Common.{◌≡◌, ℕ, ◌<◌, ◌≤◌, Bool, true, ◌&&◌, eqb, ltb, leb, List, [], ◌∷◌, length, refl, arith}
use Rattle.std.proofs.lemmas.Bool.Decides.{nat_tests}
use Rattle.std.proofs.lemmas.Bool.{and_parts, and_from, eqb-true, eq-eqb}
use Rattle.program.specs.Basics.{limit, all}
use Rattle.program.specs.Syntax.{Program}
use Rattle.program.specs.Semantics.{State}
use Rattle.interval.specs.Interval.{Interval, lies_in}
use Rattle.analysis.specs.Reach.{unreached, reached, ReachedAnd, ReachedImplies}
use Rattle.analysis.specs.AbstractState.{Env, Abstract}
use Rattle.analysis.specs.Concretisation.{all_lie_in, arrays_lie_in, describes, covers}
use Rattle.analysis.specs.Statements.{well_formed}

-- n lies in the interval
abbrev pub Lies : ℕ → Interval → Type 0
Lies n a = (a.lo ≤ n) × (n ≤ a.hi)

-- every element satisfies P
abbrev pub All : {A : Type 0} → (A → Type 0) → List A → Type 0
All P [] = Unit {0}
All P (x ∷ xs) = P x × All P xs

-- values lie in intervals, one by one
abbrev pub Lie : List ℕ → List Interval → Type 0
Lie [] [] = Unit {0}
Lie [] (a ∷ as₁) = ⊥
Lie (n ∷ ns) [] = ⊥
Lie (n ∷ ns) (a ∷ as₁) = Lies n a × Lie ns as₁

-- arrays have the lengths ns, and all elements of each lie in its interval
abbrev pub ArraysLie : List (List ℕ) → List ℕ → List Interval → Type 0
ArraysLie [] [] [] = Unit {0}
ArraysLie [] [] (a ∷ as₁) = ⊥
ArraysLie [] (n ∷ ns) as₁ = ⊥
ArraysLie (r ∷ rs) [] as₁ = ⊥
ArraysLie (r ∷ rs) (n ∷ ns) [] = ⊥
ArraysLie (r ∷ rs) (n ∷ ns) (a ∷ as₁) = (length r ≡ n) × All (λ v. Lies v a) r × ArraysLie rs ns as₁

-- a state lies in an environment
abbrev pub Describes : List ℕ → State → Env → Type 0
Describes ns s w = Lie s.values w.values × ArraysLie s.arrays ns w.arrays

-- a state lies in an abstract state
abbrev pub Covers : List ℕ → State → Abstract → Type 0
Covers ns s h = ReachedAnd (Describes ns s) h

-- an interval that is not empty and lies below 2^32
abbrev pub Proper : Interval → Type 0
Proper a = (a.lo ≤ a.hi) × (a.hi < limit)

-- v variables, r arrays, proper intervals
abbrev pub ProperEnv : ℕ → ℕ → Env → Type 0
ProperEnv v r w = (length w.values ≡ v) × (length w.arrays ≡ r) × All Proper w.values × All Proper w.arrays

-- nothing comes here, or what does is well formed
abbrev pub Well : ℕ → ℕ → Abstract → Type 0
Well v r h = ReachedImplies (ProperEnv v r) h

-- a test that says P of each element, for all of a list
pub all_from_test : {A : Type 0} (p : A → Bool) (P : A → Type 0) → ((x : A) → p x ≡ true → P x) → (xs : List A) → all p xs ≡ true → All P xs
all_from_test p P f [] e = tt
all_from_test p P f (x ∷ xs) e = let q = and_parts (p x) (all p xs) e in (f x q.0, all_from_test p P f xs q.1)

-- the other way round
pub all_to_test : {A : Type 0} (p : A → Bool) (P : A → Type 0) → ((x : A) → P x → p x ≡ true) → (xs : List A) → All P xs → all p xs ≡ true
all_to_test p P f [] h = refl
all_to_test p P f (x ∷ xs) h = and_from (p x) (all p xs) (f x h.0) (all_to_test p P f xs h.1)

-- a number lies in an interval
pub lies_from_test : (n : ℕ) (a : Interval) → lies_in n a ≡ true → Lies n a
lies_from_test n a e = grind (arith, nat_tests)

-- the other way round
pub lies_to_test : (n : ℕ) (a : Interval) → Lies n a → lies_in n a ≡ true
lies_to_test n a h = grind (arith, nat_tests)

-- values lie in intervals
pub lie_from_test : (vs : List ℕ) (ss : List Interval) → all_lie_in vs ss ≡ true → Lie vs ss
unfolding all_lie_in
lie_from_test [] [] e = tt
lie_from_test [] (a ∷ ss) e = grind arith
lie_from_test (v ∷ vs) [] e = grind arith
lie_from_test (v ∷ vs) (a ∷ ss) e = let q = and_parts (lies_in v a) (all_lie_in vs ss) e in (lies_from_test v a q.0, lie_from_test vs ss q.1)

-- the other way round
pub lie_to_test : (vs : List ℕ) (ss : List Interval) → Lie vs ss → all_lie_in vs ss ≡ true
unfolding all_lie_in
lie_to_test [] [] h = refl
lie_to_test [] (a ∷ ss) h = absurd h
lie_to_test (v ∷ vs) [] h = absurd h
lie_to_test (v ∷ vs) (a ∷ ss) h = and_from (lies_in v a) (all_lie_in vs ss) (lies_to_test v a h.0) (lie_to_test vs ss h.1)

-- an array has its length, and its elements lie in its interval
array_from_test : (vs : List ℕ) (n : ℕ) (a : Interval) → (eqb (length vs) n && all (λ v. lies_in v a) vs) ≡ true → (length vs ≡ n) × All (λ v. Lies v a) vs
array_from_test vs n a e =
    let q = and_parts (eqb (length vs) n) (all (λ v. lies_in v a) vs) e in
    let l = q.0 in
    (grind (arith, nat_tests), all_from_test (λ v. lies_in v a) (λ v. Lies v a) (λ v. lies_from_test v a) vs q.1)

-- the other way round
array_to_test : (vs : List ℕ) (n : ℕ) (a : Interval) → length vs ≡ n → All (λ v. Lies v a) vs → (eqb (length vs) n && all (λ v. lies_in v a) vs) ≡ true
array_to_test vs n a l h =
    and_from (eqb (length vs) n) (all (λ v. lies_in v a) vs) (grind (arith, nat_tests)) (all_to_test (λ v. lies_in v a) (λ v. Lies v a) (λ v. lies_to_test v a) vs h)

-- arrays lie in intervals
pub arrays_from_test : (rs : List (List ℕ)) (ns : List ℕ) (ss : List Interval) → arrays_lie_in rs ns ss ≡ true → ArraysLie rs ns ss
unfolding arrays_lie_in
arrays_from_test [] [] [] e = tt
arrays_from_test [] [] (a ∷ ss) e = grind arith
arrays_from_test [] (n ∷ ns) ss e = grind arith
arrays_from_test (r ∷ rs) [] ss e = grind arith
arrays_from_test (r ∷ rs) (n ∷ ns) [] e = grind arith
arrays_from_test (r ∷ rs) (n ∷ ns) (a ∷ ss) e =
    let q = and_parts (eqb (length r) n && all (λ v. lies_in v a) r) (arrays_lie_in rs ns ss) e in
    let h = array_from_test r n a q.0 in
    (h.0, h.1, arrays_from_test rs ns ss q.1)

-- the other way round
pub arrays_to_test : (rs : List (List ℕ)) (ns : List ℕ) (ss : List Interval) → ArraysLie rs ns ss → arrays_lie_in rs ns ss ≡ true
unfolding arrays_lie_in
arrays_to_test [] [] [] h = refl
arrays_to_test [] [] (a ∷ ss) h = absurd h
arrays_to_test [] (n ∷ ns) ss h = absurd h
arrays_to_test (r ∷ rs) [] ss h = absurd h
arrays_to_test (r ∷ rs) (n ∷ ns) [] h = absurd h
arrays_to_test (r ∷ rs) (n ∷ ns) (a ∷ ss) h =
    and_from (eqb (length r) n && all (λ v. lies_in v a) r) (arrays_lie_in rs ns ss) (array_to_test r n a h.0 h.1) (arrays_to_test rs ns ss h.2)

-- a state lies in an environment
pub describes_from_test : (ns : List ℕ) (s : State) (w : Env) → describes ns s w ≡ true → Describes ns s w
describes_from_test ns s w e =
    let q = and_parts (all_lie_in s.values w.values) (arrays_lie_in s.arrays ns w.arrays) e in
    (lie_from_test s.values w.values q.0, arrays_from_test s.arrays ns w.arrays q.1)

-- the other way round
pub describes_to_test : (ns : List ℕ) (s : State) (w : Env) → Describes ns s w → describes ns s w ≡ true
describes_to_test ns s w h =
    and_from (all_lie_in s.values w.values) (arrays_lie_in s.arrays ns w.arrays)
    (lie_to_test s.values w.values h.0) (arrays_to_test s.arrays ns w.arrays h.1)

-- a state lies in an abstract state
pub covers_from_test : (ns : List ℕ) (s : State) (h : Abstract) → covers ns s h ≡ true → Covers ns s h
unfolding covers
covers_from_test ns s unreached e = grind arith
covers_from_test ns s (reached w) e = describes_from_test ns s w e

-- the other way round
pub covers_to_test : (ns : List ℕ) (s : State) (h : Abstract) → Covers ns s h → covers ns s h ≡ true
unfolding covers
covers_to_test ns s unreached h = absurd h
covers_to_test ns s (reached w) h = describes_to_test ns s w h

proper_from_test : (a : Interval) → (leb a.lo a.hi && ltb a.hi limit) ≡ true → Proper a
proper_from_test a e = grind (arith, nat_tests)

proper_to_test : (a : Interval) → Proper a → (leb a.lo a.hi && ltb a.hi limit) ≡ true
proper_to_test a h = grind (arith, nat_tests)

-- an abstract state is well formed
pub well_from_test : (p : Program) (h : Abstract) → well_formed p h ≡ true → Well p.vars (length p.arrays) h
unfolding well_formed
well_from_test p unreached e = tt
well_from_test p (reached w) e =
    let P : Interval → Bool = (λ s. leb s.lo s.hi && ltb s.hi limit) in
    let q = and_parts (eqb (length w.values) p.vars) (eqb (length w.arrays) (length p.arrays) && (all P w.values && all P w.arrays)) e in
    let r = and_parts (eqb (length w.arrays) (length p.arrays)) (all P w.values && all P w.arrays) q.1 in
    let t = and_parts (all P w.values) (all P w.arrays) r.1 in (
      eqb-true (length w.values) p.vars q.0,
      eqb-true (length w.arrays) (length p.arrays) r.0,
      all_from_test P Proper proper_from_test w.values t.0,
      all_from_test P Proper proper_from_test w.arrays t.1,
    )

-- the other way round
pub well_to_test : (p : Program) (h : Abstract) → Well p.vars (length p.arrays) h → well_formed p h ≡ true
unfolding well_formed
well_to_test p unreached h = refl
well_to_test p (reached w) h =
    let P : Interval → Bool = (λ s. leb s.lo s.hi && ltb s.hi limit) in
    and_from (eqb (length w.values) p.vars) (eqb (length w.arrays) (length p.arrays) && (all P w.values && all P w.arrays)) (eq-eqb (length w.values) p.vars h.0)
    (and_from (eqb (length w.arrays) (length p.arrays)) (all P w.values && all P w.arrays) (eq-eqb (length w.arrays) (length p.arrays) h.1)
    (and_from (all P w.values) (all P w.arrays) (all_to_test P Proper proper_to_test w.values h.2) (all_to_test P Proper proper_to_test w.arrays h.3)))
