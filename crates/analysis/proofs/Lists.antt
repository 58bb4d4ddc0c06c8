-- What holds of every element of a list, or of some. Rests on the definitions alone.
use Rattle.std.proofs.Common.{◌≡◌, ℕ, zero, suc, ◌<◌, Bool, true, List, [], ◌∷◌, ◌++◌, length, get_or, set, ⊎_elim, arith}
use Rattle.std.proofs.lemmas.Bool.{or_cases, or_left, or_right}
use Rattle.program.specs.Basics.{any}
use Rattle.analysis.proofs.Relations.{All}

-- a weaker fact of every element
pub all_weaken : {A : Type 0} (P Q : A → Type 0) → ((x : A) → P x → Q x) → (xs : List A) → All P xs → All Q xs
all_weaken P Q f [] h = tt
all_weaken P Q f (x ∷ xs) h = (f x h.0, all_weaken P Q f xs h.1)

-- a fact of every element holds of the one at an index
pub all_at : {A : Type 0} (P : A → Type 0) (xs : List A) (i : ℕ) (d : A) → All P xs → i < length xs → P (get_or xs i d)
all_at P [] i d h l = absurd (omega arith)
all_at P (x ∷ xs) zero d h l = h.0
all_at P (x ∷ xs) (suc i) d h l = all_at P xs i d h.1 (omega arith)

-- a fact of every element is kept where an element with that fact is put in
pub all_set : {A : Type 0} (P : A → Type 0) (xs : List A) (i : ℕ) (a : A) → All P xs → P a → All P (set xs i a)
all_set P [] i a h k = tt
all_set P (x ∷ xs) zero a h k = (k, h.1)
all_set P (x ∷ xs) (suc i) a h k = (h.0, all_set P xs i a h.1 k)

-- some element of the first list is one of both
pub any_left : {A : Type 0} (p : A → Bool) (xs ys : List A) → any p xs ≡ true → any p (xs ++ ys) ≡ true
any_left p [] ys e = grind arith
any_left p (x ∷ xs) ys e = ⊎_elim (λ h. or_left (p x) (any p (xs ++ ys)) h) (λ h. or_right (p x) (any p (xs ++ ys)) (any_left p xs ys h)) (or_cases (p x) (any p xs) e)

-- and so of the second
pub any_right : {A : Type 0} (p : A → Bool) (xs ys : List A) → any p ys ≡ true → any p (xs ++ ys) ≡ true
any_right p [] ys e = e
any_right p (x ∷ xs) ys e = or_right (p x) (any p (xs ++ ys)) (any_right p xs ys e)

-- what holds of anything holds of every element
pub all_any : {A : Type 0} (P : A → Type 0) → ((x : A) → P x) → (xs : List A) → All P xs
all_any P f [] = tt
all_any P f (x ∷ xs) = (f x, all_any P f xs)
