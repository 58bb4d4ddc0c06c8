-- What a text says, by its first byte and its length. Rests on the definitions alone.
use Rattle.std.proofs.Common.{◌≡◌, ℕ, ◌<◌, ◌≤◌, true, List, [], ◌∷◌, length, get_or, drop, sym, refl, ap, arith}
use Rattle.std.proofs.lemmas.Bool.{lt-ltb, ltb-true}
use Rattle.program.specs.Syntax.{Program}
use Rattle.program.specs.Encoding.{encode_program}
use Rattle.program.specs.Validity.{valid_program}
use Rattle.program.specs.Command.{Command, load, all_alarms, at_end, encode, valid}
use Rattle.encoding.specs.Reader.{nothing, heard}
use Rattle.encoding.specs.Statements.{Hears}

-- the first byte and the length of a text that encodes a command
first_of : (t : List ℕ) (a : Command) → encode a ≡ t → get_or (encode a) 0 0 ≡ get_or t 0 0
first_of t a e = ap (λ (s : List ℕ). get_or s 0 0) e

length_of : (t : List ℕ) (a : Command) → encode a ≡ t → length (encode a) ≡ length t
length_of t a e = ap (λ (s : List ℕ). length s) e

-- no command
pub hears_empty : (t : List ℕ) → length t ≡ 0 → Hears t nothing
unfolding encode
hears_empty t l (load p) (e, v) = omega (arith, length_of t (load p) e)
hears_empty t l all_alarms (e, v) = omega (arith, length_of t all_alarms e)
hears_empty t l (at_end x) (e, v) = omega (arith, length_of t (at_end x) e)

pub hears_other : (t : List ℕ) → (get_or t 0 0 ≡ 1 → ⊥) → (get_or t 0 0 ≡ 2 → ⊥) → (get_or t 0 0 ≡ 3 → ⊥) → Hears t nothing
unfolding encode
hears_other t l a e (load p) (f, v) = omega (arith, first_of t (load p) f)
hears_other t l a e all_alarms (f, v) = omega (arith, first_of t all_alarms f)
hears_other t l a e (at_end x) (f, v) = omega (arith, first_of t (at_end x) f)

-- a program
pub hears_load : (t : List ℕ) (p : Program) → 1 ≤ length t → get_or t 0 0 ≡ 1 → encode_program p ≡ drop 1 t → valid_program p ≡ true → Hears t (heard (load p))
unfolding encode valid
hears_load [] p l b e v = absurd (omega arith)
hears_load (x ∷ t) p l b e v = (rw (b, e) refl, v)

pub hears_no_load : (t : List ℕ) → get_or t 0 0 ≡ 1 → ((p : Program) → encode_program p ≡ drop 1 t → valid_program p ≡ true → ⊥) → Hears t nothing
unfolding encode valid
hears_no_load t b h (load p) (e, v) = absurd (h p (ap (λ (s : List ℕ). drop 1 s) e) v)
hears_no_load t b h all_alarms (e, v) = omega (arith, first_of t all_alarms e)
hears_no_load t b h (at_end x) (e, v) = omega (arith, first_of t (at_end x) e)

-- all alarms
pub hears_alarms : (t : List ℕ) → length t ≡ 1 → get_or t 0 0 ≡ 2 → Hears t (heard all_alarms)
unfolding encode valid
hears_alarms [] l b = absurd (omega arith)
hears_alarms (x ∷ []) l b = (rw b refl, refl)
hears_alarms (x ∷ y ∷ t) l b = absurd (omega arith)

pub hears_no_alarms : (t : List ℕ) → get_or t 0 0 ≡ 2 → (length t ≡ 1 → ⊥) → Hears t nothing
unfolding encode
hears_no_alarms t b h (load p) (e, v) = omega (arith, first_of t (load p) e)
hears_no_alarms t b h all_alarms (e, v) = omega (arith, length_of t all_alarms e)
hears_no_alarms t b h (at_end x) (e, v) = omega (arith, first_of t (at_end x) e)

-- a variable's end
pub hears_end : (t : List ℕ) → length t ≡ 2 → get_or t 0 0 ≡ 3 → get_or t 1 0 < 64 → Hears t (heard (at_end (get_or t 1 0)))
unfolding encode valid
hears_end [] l b h = absurd (omega arith)
hears_end (x ∷ []) l b h = absurd (omega arith)
hears_end (x ∷ y ∷ []) l b h = (rw b refl, lt-ltb y 64 h)
hears_end (x ∷ y ∷ z ∷ t) l b h = absurd (omega arith)

pub hears_no_end : (t : List ℕ) → get_or t 0 0 ≡ 3 → (length t ≡ 2 → get_or t 1 0 < 64 → ⊥) → Hears t nothing
unfolding encode valid
hears_no_end t b h (load p) (e, v) = omega (arith, first_of t (load p) e)
hears_no_end t b h all_alarms (e, v) = omega (arith, first_of t all_alarms e)
hears_no_end t b h (at_end x) (e, v) =
    let y : x ≡ get_or t 1 0 = ap (λ (s : List ℕ). get_or s 1 0) e in
    absurd (h (sym (length_of t (at_end x) e)) (omega (arith, ltb-true x 64 v)))
