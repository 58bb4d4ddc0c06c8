-- Commands by their first byte. Rests on the definitions alone.
use Rattle.std.proofs.Common.{◌≡◌, ℕ, ◌≤◌, true, false, ltb, List, [], ◌∷◌, length, get_or, None, sym, refl, ap, ◌∙◌, arith}
use Rattle.std.proofs.lemmas.Bool.{both_ways}
use Rattle.program.specs.Syntax.{Program}
use Rattle.program.specs.Command.{load, all_alarms, at_end, encode, valid}
use Rattle.scanner.specs.Bytes.{ByteAt}
use Rattle.reader.specs.Request.{EncodingOf, Reads}

-- a command begins with 1, 2 or 3
pub refused : (text : List ℕ) (b : ℕ) → get_or text 0 0 ≡ b → (b ≡ 1 → (p : Program) → EncodingOf (load p) text → ⊥) → (b ≡ 2 → EncodingOf all_alarms text → ⊥) → (b ≡ 3 → (x : ℕ) → EncodingOf (at_end x) text → ⊥) →
    Reads text None
unfolding encode
refused text b h k l m (load p) e = k (sym h ∙ ap (λ (bs : List ℕ). get_or bs 0 0) (sym e.0)) p e
refused text b h k l m all_alarms e = l (sym h ∙ ap (λ (bs : List ℕ). get_or bs 0 0) (sym e.0)) e
refused text b h k l m (at_end x) e = m (sym h ∙ ap (λ (bs : List ℕ). get_or bs 0 0) (sym e.0)) x e

-- the command for alarms is one byte
pub alarms_read : (text : List ℕ) → ByteAt text 0 2 → length text ≡ 1 → EncodingOf all_alarms text
unfolding encode valid
alarms_read [] h l = absurd (omega arith)
alarms_read (b ∷ []) h l = (ap (λ (a : ℕ). a ∷ []) (sym h.is), refl)
alarms_read (b ∷ c ∷ bs) h l = absurd (omega arith)

pub alarms_long : (text : List ℕ) → EncodingOf all_alarms text → length text ≡ 1
unfolding encode
alarms_long text e = sym (ap length e.0)

-- the question for the end is two
pub end_read : (text : List ℕ) (x : ℕ) → ByteAt text 0 3 → length text ≡ 2 → get_or text 1 0 ≡ x → ltb x 64 ≡ true → EncodingOf (at_end x) text
unfolding encode valid
end_read [] x h l e v = absurd (omega arith)
end_read (b ∷ []) x h l e v = absurd (omega arith)
end_read (b ∷ c ∷ []) x h l e v = (sym (ap (λ (a : ℕ). a ∷ c ∷ []) h.is ∙ ap (λ (a : ℕ). 3 ∷ a ∷ []) e), v)
end_read (b ∷ c ∷ d ∷ bs) x h l e v = absurd (omega arith)

pub end_long : (text : List ℕ) (x : ℕ) → EncodingOf (at_end x) text → length text ≡ 2
unfolding encode
end_long text x e = sym (ap length e.0)

pub end_wrong : (text : List ℕ) (x y : ℕ) → get_or text 1 0 ≡ x → ltb x 64 ≡ false → EncodingOf (at_end y) text → ⊥
unfolding encode valid
end_wrong text x y h v e =
    let same : y ≡ x = ap (λ (bs : List ℕ). get_or bs 1 0) e.0 ∙ h in
    both_ways (ltb y 64) (ap (λ (z : ℕ). ltb z 64) same ∙ v) e.1

-- no command is empty
pub none_empty : (text : List ℕ) → length text ≤ 0 → Reads text None
unfolding encode
none_empty text l (load p) e = omega (arith, ap length e.0)
none_empty text l all_alarms e = omega (arith, ap length e.0)
none_empty text l (at_end x) e = omega (arith, ap length e.0)
