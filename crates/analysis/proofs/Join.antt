-- Joins: a join lies above both sides, so it holds what either holds; and merging keeps abstract states well formed. Rests on the order.
use Rattle.std.proofs.Common.{◌≡◌, ℕ, List, [], ◌∷◌, length, refl, ⊎_elim, arith}
use Rattle.std.proofs.lemmas.Bool.Decides.{nat_tests}
use Rattle.interval.specs.Interval.{Interval, join_interval}
use Rattle.analysis.specs.Reach.{unreached, reached}
use Rattle.analysis.specs.AbstractState.{Abstract, zip_with, merge, join}
use Rattle.analysis.specs.Statements.{JoinSound}
use Rattle.analysis.proofs.Relations.{All, Proper, Well, covers_from_test, covers_to_test}
use Rattle.analysis.proofs.Lists.{all_any}
use Rattle.analysis.proofs.Order.{Inside, AllInside, Below, SameSize, covers_below, below_self, below_from_test, size_from_test}

-- every interval of an abstract state satisfies P
abbrev pub Intervals : (Interval → Type 0) → Abstract → Type 0
Intervals P unreached = Unit {0}
Intervals P (reached w) = All P w.values × All P w.arrays

zip_left : (P : Interval → Type 0) (f : Interval → Interval → Interval) → ((a b : Interval) → P a → P b → Inside a (f a b)) →
    (as₁ bs : List Interval) → length as₁ ≡ length bs → All P as₁ → All P bs → AllInside as₁ (zip_with f as₁ bs)
unfolding zip_with
zip_left P f k [] bs l h g = tt
zip_left P f k (a ∷ as₁) [] l h g = absurd (omega arith)
zip_left P f k (a ∷ as₁) (b ∷ bs) l h g = (k a b h.0 g.0, zip_left P f k as₁ bs (omega arith) h.1 g.1)

zip_right : (f : Interval → Interval → Interval) → ((a b : Interval) → Inside b (f a b)) → (as₁ bs : List Interval) → length as₁ ≡ length bs → AllInside bs (zip_with f as₁ bs)
unfolding zip_with
zip_right f k [] [] l = tt
zip_right f k [] (b ∷ bs) l = absurd (omega arith)
zip_right f k (a ∷ as₁) [] l = absurd (omega arith)
zip_right f k (a ∷ as₁) (b ∷ bs) l = (k a b, zip_right f k as₁ bs (omega arith))

-- an abstract state lies below what it is merged to, if each interval does
pub merge_left : (P : Interval → Type 0) (f : Interval → Interval → Interval) → ((a b : Interval) → P a → P b → Inside a (f a b)) →
    (h g : Abstract) → SameSize h g → Intervals P h → Intervals P g → Below h (merge f h g)
unfolding merge
merge_left P f k unreached g z p q = tt
merge_left P f k (reached w) unreached z p q = below_self (reached w)
merge_left P f k (reached w) (reached v) z p q =
    (zip_left P f k w.values v.values z.0 p.0 q.0, zip_left P f k w.arrays v.arrays z.1 p.1 q.1)

whatever : (h : Abstract) → Intervals (λ a. Unit {0}) h
whatever unreached = tt
whatever (reached w) = (all_any (λ a. Unit {0}) (λ a. tt) w.values, all_any (λ a. Unit {0}) (λ a. tt) w.arrays)

-- a join lies above its first side
pub join_above_left : (h g : Abstract) → SameSize h g → Below h (join h g)
join_above_left h g z = merge_left (λ a. Unit {0}) join_interval (λ a b u v. (grind (arith, nat_tests), grind (arith, nat_tests))) h g z (whatever h) (whatever g)

-- and above its second
pub join_above_right : (h g : Abstract) → SameSize h g → Below g (join h g)
unfolding merge
join_above_right unreached g z = below_self g
join_above_right (reached w) unreached z = tt
join_above_right (reached w) (reached v) z =
    let k : (a b : Interval) → Inside b (join_interval a b) = (λ a b. (grind (arith, nat_tests), grind (arith, nat_tests))) in
    (zip_right join_interval k w.values v.values z.0, zip_right join_interval k w.arrays v.arrays z.1)

pub join_sound : JoinSound
unfolding JoinSound
join_sound ns s h g = (
  λ z. ⊎_elim (λ c. covers_to_test ns s (join h g) (covers_below ns s h (join h g) (join_above_left h g (size_from_test h g z)) (covers_from_test ns s h c)))
      (λ c. covers_to_test ns s (join h g) (covers_below ns s g (join h g) (join_above_right h g (size_from_test h g z)) (covers_from_test ns s g c))),
  λ i z c. covers_to_test ns s g (covers_below ns s h g (below_from_test h g (size_from_test h g z) i) (covers_from_test ns s h c)),
)

pub zip_length : (f : Interval → Interval → Interval) (as₁ bs : List Interval) → length as₁ ≡ length bs → length (zip_with f as₁ bs) ≡ length as₁
unfolding zip_with
zip_length f [] bs l = refl
zip_length f (a ∷ as₁) [] l = absurd (omega arith)
zip_length f (a ∷ as₁) (b ∷ bs) l = let e = zip_length f as₁ bs (omega arith) in omega arith

pub zip_proper : (f : Interval → Interval → Interval) → ((a b : Interval) → Proper a → Proper b → Proper (f a b)) → (as₁ bs : List Interval) → All Proper as₁ → All Proper bs → All Proper (zip_with f as₁ bs)
unfolding zip_with
zip_proper f k [] bs p q = tt
zip_proper f k (a ∷ as₁) [] p q = tt
zip_proper f k (a ∷ as₁) (b ∷ bs) p q = (k a b p.0 q.0, zip_proper f k as₁ bs p.1 q.1)

-- a join of proper intervals is proper
pub join_proper : (a b : Interval) → Proper a → Proper b → Proper (join_interval a b)
join_proper a b p q = (grind (arith, nat_tests), grind (arith, nat_tests))

-- merging keeps abstract states well formed, if it keeps intervals proper
pub merge_well : (f : Interval → Interval → Interval) → ((a b : Interval) → Proper a → Proper b → Proper (f a b)) → (v r : ℕ) (h g : Abstract) → Well v r h → Well v r g → Well v r (merge f h g)
unfolding merge
merge_well f k v r unreached g p q = q
merge_well f k v r (reached w) unreached p q = p
merge_well f k v r (reached w) (reached u) p q =
    let l = zip_length f w.values u.values (omega arith) in
    let m = zip_length f w.arrays u.arrays (omega arith) in
    (omega arith, omega arith, zip_proper f k w.values u.values p.2 q.2, zip_proper f k w.arrays u.arrays p.3 q.3)

-- a join of well formed abstract states is well formed
pub join_well : (v r : ℕ) (h g : Abstract) → Well v r h → Well v r g → Well v r (join h g)
join_well v r h g p q = merge_well join_interval join_proper v r h g p q
