-- Arrays that are held in another form than lists of numbers: elements are read and changed there as in the definitions. Rests on the definitions alone.
use Rattle.std.proofs.Common.{◌≡◌, ℕ, zero, suc, ◌<◌, ◌≤◌, Bool, true, false, cond, ltb, List, [], ◌∷◌, length, get_or, set, Some, None, Option, Ok, Err, Result, sym, refl, ap, ◌∙◌, subst, ⊎_elim, arith}
use Rattle.std.proofs.lemmas.List.{get_or_read}
use Rattle.std.specs.Option.{IsSome, IfSome, is_some, option_map, ok_or}
use Rattle.std.proofs.lemmas.Bool.{lt-ltb, le-ltb, ltb-true, cases_lt}
use Rattle.program.specs.Basics.{map}
use Rattle.program.specs.declared.fault.Fault.{Fault}
use Rattle.program.specs.declared.fault.Fault.TheVariants.{Index}
use Rattle.program.specs.Semantics.{State, nth_array, value, failed}
use Rattle.runner.specs.Changes.{has_element, element_in, Stored}
use Rattle.runner.specs.Found.{as_evaluated}

pub nth_past : {A : Type 0} (f : A → List ℕ) (rows : List A) (r : ℕ) → length rows ≤ r → nth_array (map f rows) r ≡ []
unfolding nth_array
nth_past f [] r l = refl
nth_past f (x ∷ xs) zero l = absurd (omega arith)
nth_past f (x ∷ xs) (suc r) l = nth_past f xs r (omega arith)

pub nth_at : {A : Type 0} (f : A → List ℕ) (rows : List A) (r : ℕ) (row : A) → r < length rows → row ≡ get_or rows r row → nth_array (map f rows) r ≡ f row
unfolding nth_array
nth_at f [] r row l e = absurd (omega arith)
nth_at f (x ∷ xs) zero row l e = ap f (sym e)
nth_at f (x ∷ xs) (suc r) row l e = nth_at f xs r row (omega arith) e

pub map_set : {A : Type 0} (f : A → List ℕ) (rows : List A) (r : ℕ) (row : A) → map f (set rows r row) ≡ set (map f rows) r (f row)
map_set f [] r row = refl
map_set f (x ∷ xs) zero row = refl
map_set f (x ∷ xs) (suc r) row = ap (λ (ys : List (List ℕ)). f x ∷ ys) (map_set f xs r row)

-- where there is no element

has_none : (s : State) (r i : ℕ) (xs : List ℕ) → nth_array s.arrays r ≡ xs → length xs ≤ i → false ≡ has_element s r i
has_none s r i xs e l = sym (ap (λ (ys : List ℕ). ltb i (length ys)) e ∙ le-ltb i (length xs) l)

pub no_array : {A : Type 0} (f : A → List ℕ) (s : State) (rows : List A) (r i : ℕ) → s.arrays ≡ map f rows → length rows ≤ r → false ≡ has_element s r i
no_array f s rows r i e l = has_none s r i [] (ap (λ (as₁ : List (List ℕ)). nth_array as₁ r) e ∙ nth_past f rows r l) (omega arith)

pub short_array : {A : Type 0} (f : A → List ℕ) (s : State) (rows : List A) (r i : ℕ) (row : A) → s.arrays ≡ map f rows →
    r < length rows → row ≡ get_or rows r row → length (f row) ≤ i → false ≡ has_element s r i
short_array f s rows r i row e l h k = has_none s r i (f row) (ap (λ (as₁ : List (List ℕ)). nth_array as₁ r) e ∙ nth_at f rows r row l h) k

pub element_none : (s : State) (r i : ℕ) → false ≡ has_element s r i → failed 3 ≡ element_in s r i
element_none s r i e = ap (λ (b : Bool). cond b (value (get_or (nth_array s.arrays r) i 0)) (failed 3)) e

-- where there is one

pub has_some : (s : State) (r i : ℕ) (xs : List ℕ) → nth_array s.arrays r ≡ xs → i < length xs → true ≡ has_element s r i
has_some s r i xs e l = sym (ap (λ (ys : List ℕ). ltb i (length ys)) e ∙ lt-ltb i (length xs) l)

pub element_some : (s : State) (r i n : ℕ) (xs : List ℕ) → nth_array s.arrays r ≡ xs → i < length xs → n ≡ get_or xs i n → value n ≡ element_in s r i
element_some s r i n xs e l h =
    ap value (get_or_read xs i n l h 0 ∙ ap (λ (ys : List ℕ). get_or ys i 0) (sym e))
    ∙ ap (λ (b : Bool). cond b (value (get_or (nth_array s.arrays r) i 0)) (failed 3)) (has_some s r i xs e l)

-- what a look-up gives

pub element_looked : {B : Type 0} (f : B → ℕ) (g : Option B) (s : State) (r i : ℕ) (xs : List ℕ) (w : Result ℕ Fault) → nth_array s.arrays r ≡ xs →
    is_some g ≡ ltb i (length xs) → IfSome g (λ x. f x ≡ get_or xs i (f x)) → w ≡ ok_or (option_map f g) Index → as_evaluated w ≡ element_in s r i
element_looked f None s r i xs w e b h is = ap as_evaluated is ∙ element_none s r i (b ∙ sym (ap (λ (ys : List ℕ). ltb i (length ys)) e))
element_looked f (Some x) s r i xs w e b h is = ap as_evaluated is ∙ element_some s r i (f x) xs e (ltb-true i (length xs) (sym b)) h

pub not_there : {A : Type 0} (o : Option A) (r n : ℕ) → o ≡ None → (r < n → IsSome o) → n ≤ r
not_there {A = A} o r n e h = ⊎_elim (λ (l : r < n). let z : false ≡ true = subst (λ (x : Option A). IsSome x) e (h l) in cc) (λ (l : n ≤ r). l) (cases_lt r n)

pub stored_none : (s s₁ : State) (r i n : ℕ) (f : Fault) → false ≡ has_element s r i → f ≡ Index → Stored s r i n (Err f) s₁
stored_none s s₁ r i n f e is = (sym e, is)

pub stored_some : {A : Type 0} (f : A → List ℕ) (vs : List ℕ) (rows : List A) (ins : List ℕ) (r i n : ℕ) (row row₁ : A) →
    r < length rows → row ≡ get_or rows r row → i < length (f row) → f row₁ ≡ set (f row) i n →
    Stored (record { values = vs; arrays = map f rows; inputs = ins }) r i n (Ok tt) (record { values = vs; arrays = map f (set rows r row₁); inputs = ins })
stored_some f vs rows ins r i n row row₁ l e k h =
    let at = nth_at f rows r row l e in
    let s : State = record { values = vs; arrays = map f rows; inputs = ins } in
    let same : map f (set rows r row₁) ≡ set (map f rows) r (set (nth_array (map f rows) r) i n) =
    map_set f rows r row₁ ∙ ap (λ (ys : List ℕ). set (map f rows) r ys) (h ∙ ap (λ (ys : List ℕ). set ys i n) (sym at)) in
    (sym (has_some s r i (f row) at k), ap (λ (as₁ : List (List ℕ)). record { values = vs; arrays = as₁; inputs = ins }) same)
