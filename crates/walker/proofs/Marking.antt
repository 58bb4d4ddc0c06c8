-- Marking alarms in a table: none, one after another, and the kinds of one statement.
use Rattle.std.proofs.Common.{◌≡◌, ℕ, zero, suc, ◌+◌, ◌-◌, ◌*◌, ◌/◌, ◌%◌, ◌<◌, Bool, true, false, cond, ◌&&◌, ◌||◌, eqb, List, [], ◌∷◌, ◌++◌, length, get_or, set, sym, refl, ap, ◌∙◌, subst, arith, length-set, get_or-set_other, get_or-set_same, eqb-true}
use borrow.Author.Tests.{eqb-false}
use Rattle.std.proofs.Math.Bool.{and-false, and-or_distrib_left}
use Rattle.std.proofs.lemmas.Bool.Decides.{nat_tests}
use Rattle.program.specs.Basics.{any}
use Rattle.analysis.specs.Reach.{Alarm, alarms_at}
use Rattle.analysis.specs.Concretisation.{has_alarm}
use Rattle.interval.specs.declared.types.Faults.{Faults}
use Rattle.interval.specs.Of.{Faulty}
use Rattle.interval.proofs.Combining.{any_append}
use Rattle.walker.specs.Table.{Marked, mark_if}

-- nothing to mark
pub marked_none : (t : List ℕ) → Marked [] t t
marked_none t = record { long = refl; each_is = λ i h. refl }

cond_or : (a b : Bool) (x : ℕ) → cond b 1 (cond a 1 x) ≡ cond (a || b) 1 x
cond_or true true x = refl
cond_or true false x = refl
cond_or false b x = refl

-- one list of alarms after another
pub marked_two : (as₁ bs : List Alarm) (t t₁ t₂ : List ℕ) → Marked as₁ t t₁ → Marked bs t₁ t₂ → Marked (as₁ ++ bs) t t₂
marked_two as₁ bs t t₁ t₂ h g =
    record {
      long = g.long ∙ h.long;
      each_is = λ i l.
          let m : i < length t₁ = omega (arith, h.long) in
          let p : Alarm → Bool = (λ a. eqb a.stmt (suc (i / 4)) && eqb a.kind (suc (i % 4))) in
          g.each_is i m ∙ ap (λ x. cond (any p bs) 1 x) (h.each_is i l) ∙ cond_or (any p as₁) (any p bs) (get_or t i 0)
          ∙ ap (λ b. cond b 1 (get_or t i 0)) (sym (any_append p as₁ bs));
    }

-- the four slots of a statement, from slot j on
abbrev pub mark_four : (f₁ f₂ f₃ f₄ : Bool) → ℕ → List ℕ → List ℕ
mark_four f₁ f₂ f₃ f₄ j t = mark_if f₄ (j + 3) (mark_if f₃ (j + 2) (mark_if f₂ (j + 1) (mark_if f₁ j t)))

mark_long : (b : Bool) (j : ℕ) (t : List ℕ) → length (mark_if b j t) ≡ length t
mark_long true j t = simp length-set
mark_long false j t = refl

at_set : (j : ℕ) (t : List ℕ) (i : ℕ) (c : Bool) → eqb i j ≡ c → i < length t → get_or (set t j 1) i 0 ≡ cond c 1 (get_or t i 0)
at_set j t i true e h = let q : i ≡ j = eqb-true i j e in rw q (get_or-set_same t j 1 0 (rw q at h))
at_set j t i false e h = get_or-set_other t j i 1 0 (eqb-false i j e)

mark_at : (b : Bool) (j : ℕ) (t : List ℕ) (i : ℕ) → i < length t → get_or (mark_if b j t) i 0 ≡ cond (b && eqb i j) 1 (get_or t i 0)
mark_at false j t i h = refl
mark_at true j t i h = at_set j t i (eqb i j) refl h

eqb_swap : (a b : ℕ) → eqb a b ≡ eqb b a
eqb_swap a b = grind (arith, nat_tests)

-- the alarms of one statement, at a statement and a kind
has_at : (p : ℕ) (ks : List ℕ) (d k : ℕ) → has_alarm (alarms_at p ks) d k ≡ (eqb p d && any (eqb k) ks)
has_at p [] d k = sym (and-false (eqb p d))
has_at p (x ∷ ks) d k =
    ap (λ b. (eqb p d && eqb x k) || b) (has_at p ks d k) ∙ sym (and-or_distrib_left (eqb p d) (eqb x k) (any (eqb k) ks))
    ∙ ap (λ b. eqb p d && (b || any (eqb k) ks)) (eqb_swap x k)

-- which of four flags stands at place r
flag : (f₁ f₂ f₃ f₄ : Bool) → ℕ → Bool
flag f₁ f₂ f₃ f₄ r = cond (eqb r 0) f₁ (cond (eqb r 1) f₂ (cond (eqb r 2) f₃ f₄))

slot_eq : (q i k : ℕ) → k < 4 → eqb i (4 * q + k) ≡ (eqb (suc q) (suc (i / 4)) && eqb (i % 4) k)
slot_eq q i k h = grind (arith, nat_tests)

off : (f : Bool) (x : ℕ) → cond (f && false) 1 x ≡ x
off true x = refl
off false x = refl

on : (f : Bool) (x : ℕ) → cond (f && true) 1 x ≡ cond f 1 x
on true x = refl
on false x = refl

-- four tests of one slot come to the flag at its place
four_tests : (f₁ f₂ f₃ f₄ e : Bool) (r x : ℕ) → r < 4 →
    cond (f₄ && (e && eqb r 3)) 1 (cond (f₃ && (e && eqb r 2)) 1 (cond (f₂ && (e && eqb r 1)) 1 (cond (f₁ && (e && eqb r 0)) 1 x)))
    ≡ cond (e && flag f₁ f₂ f₃ f₄ r) 1 x
unfolding flag
four_tests f₁ f₂ f₃ f₄ false r x h = simp off
four_tests f₁ f₂ f₃ f₄ true zero x h = simp (off, on)
four_tests f₁ f₂ f₃ f₄ true (suc zero) x h = simp (off, on)
four_tests f₁ f₂ f₃ f₄ true (suc (suc zero)) x h = simp (off, on)
four_tests f₁ f₂ f₃ f₄ true (suc (suc (suc zero))) x h = simp (off, on)
four_tests f₁ f₂ f₃ f₄ true (suc (suc (suc (suc r)))) x h = absurd (omega arith)

one_more : (f : Bool) (q k : ℕ) (t : List ℕ) (i x : ℕ) → k < 4 → i < length t → get_or t i 0 ≡ x →
    get_or (mark_if f (4 * q + k) t) i 0 ≡ cond (f && (eqb (suc q) (suc (i / 4)) && eqb (i % 4) k)) 1 x
one_more f q k t i x small h e =
    mark_at f (4 * q + k) t i h ∙ ap (λ b. cond (f && b) 1 (get_or t i 0)) (slot_eq q i k small)
    ∙ ap (λ y. cond (f && (eqb (suc q) (suc (i / 4)) && eqb (i % 4) k)) 1 y) e

mark_four_at : (f₁ f₂ f₃ f₄ : Bool) (q : ℕ) (t : List ℕ) (i : ℕ) → i < length t →
    get_or (mark_four f₁ f₂ f₃ f₄ (4 * q) t) i 0 ≡ cond (eqb (suc q) (suc (i / 4)) && flag f₁ f₂ f₃ f₄ (i % 4)) 1 (get_or t i 0)
mark_four_at f₁ f₂ f₃ f₄ q t i h =
    let z : 4 * q + 0 ≡ 4 * q = omega arith in
    let t₁ : List ℕ = mark_if f₁ (4 * q) t in
    let t₂ : List ℕ = mark_if f₂ (4 * q + 1) t₁ in
    let t₃ : List ℕ = mark_if f₃ (4 * q + 2) t₂ in
    let l₁ : length t₁ ≡ length t = mark_long f₁ (4 * q) t in
    let l₂ : length t₂ ≡ length t = mark_long f₂ (4 * q + 1) t₁ ∙ l₁ in
    let l₃ : length t₃ ≡ length t = mark_long f₃ (4 * q + 2) t₂ ∙ l₂ in
    let e₁ = subst (λ j. get_or (mark_if f₁ j t) i 0 ≡ cond (f₁ && (eqb (suc q) (suc (i / 4)) && eqb (i % 4) 0)) 1 (get_or t i 0)) z
    (one_more f₁ q 0 t i (get_or t i 0) (omega arith) h refl) in
    let e₂ = one_more f₂ q 1 t₁ i _ (omega arith) (omega (arith, l₁)) e₁ in
    let e₃ = one_more f₃ q 2 t₂ i _ (omega arith) (omega (arith, l₂)) e₂ in
    one_more f₄ q 3 t₃ i _ (omega arith) (omega (arith, l₃)) e₃ ∙ four_tests f₁ f₂ f₃ f₄ (eqb (suc q) (suc (i / 4))) (i % 4) (get_or t i 0) (omega arith)

flag_any : (ks : List ℕ) (r : ℕ) → r < 4 → flag (any (eqb 1) ks) (any (eqb 2) ks) (any (eqb 3) ks) (any (eqb 4) ks) r ≡ any (eqb (suc r)) ks
unfolding flag
flag_any ks zero h = refl
flag_any ks (suc zero) h = refl
flag_any ks (suc (suc zero)) h = refl
flag_any ks (suc (suc (suc zero))) h = refl
flag_any ks (suc (suc (suc (suc r)))) h = absurd (omega arith)

-- a statement's kinds of faults in its four slots
pub marked_kinds : (q : ℕ) (ks t : List ℕ) →
    Marked (alarms_at (suc q) ks) t (mark_four (any (eqb 1) ks) (any (eqb 2) ks) (any (eqb 3) ks) (any (eqb 4) ks) (4 * q) t)
marked_kinds q ks t =
    record {
      long = simp mark_long;
      each_is = λ i h.
          mark_four_at (any (eqb 1) ks) (any (eqb 2) ks) (any (eqb 3) ks) (any (eqb 4) ks) q t i h
          ∙ ap (λ b. cond (eqb (suc q) (suc (i / 4)) && b) 1 (get_or t i 0)) (flag_any ks (i % 4) (omega arith))
          ∙ ap (λ b. cond b 1 (get_or t i 0)) (sym (has_at (suc q) ks (suc (i / 4)) (suc (i % 4))));
    }

-- statement 0 has no slots
pub marked_zero : (ks t : List ℕ) → Marked (alarms_at 0 ks) t t
marked_zero ks t =
    record {
      long = refl;
      each_is = λ i h.
          let z : eqb 0 (suc (i / 4)) ≡ false = grind (arith, nat_tests) in
          sym (ap (λ b. cond b 1 (get_or t i 0)) (has_at 0 ks (suc (i / 4)) (suc (i % 4)) ∙ ap (λ e. e && any (eqb (suc (i % 4))) ks) z));
    }

-- an empty table has no slots
pub marked_empty : (as₁ : List Alarm) (t : List ℕ) → length t ≡ 0 → Marked as₁ t t
marked_empty as₁ t e = record { long = refl; each_is = λ i h. absurd (omega (arith, e)) }

-- a statement behind the table's end has no slots in it
pub marked_beyond : (p : ℕ) (ks t : List ℕ) → length t < p → Marked (alarms_at p ks) t t
marked_beyond p ks t far =
    record {
      long = refl;
      each_is = λ i h.
          let z : eqb p (suc (i / 4)) ≡ false = grind (arith, nat_tests) in
          sym (ap (λ b. cond b 1 (get_or t i 0)) (has_at p ks (suc (i / 4)) (suc (i % 4)) ∙ ap (λ e. e && any (eqb (suc (i % 4))) ks) z));
    }

-- the four marks one after another, as the code sets them
pub marked_faults : (p first : ℕ) (f : Faults) (ks t t₁ t₂ t₃ t₄ : List ℕ) → Faulty f ks → 0 < p → first ≡ 4 * (p - 1) →
    t₁ ≡ mark_if f.overflow first t → t₂ ≡ mark_if f.divisor (first + 1) t₁ → t₃ ≡ mark_if f.index (first + 2) t₂ → t₄ ≡ mark_if f.check (first + 3) t₃ →
    Marked (alarms_at p ks) t t₄
marked_faults zero first f ks t t₁ t₂ t₃ t₄ h some at e₁ e₂ e₃ e₄ = absurd (omega arith)
marked_faults (suc q) first f ks t t₁ t₂ t₃ t₄ h some at e₁ e₂ e₃ e₄ =
    let z : first ≡ 4 * q = omega arith in
    rw (e₄, e₃, e₂, e₁, z, h.overflow, h.divisor, h.index, h.check) (marked_kinds q ks t)
