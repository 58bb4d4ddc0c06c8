-- The lengths of arrays, read one by one. Rests on Parts, and on where the i-th of numbers stands.
use Rattle.std.proofs.Common.{◌≡◌, ℕ, zero, suc, ◌+◌, ◌-◌, ◌*◌, ◌<◌, Bool, true, false, leb, List, [], ◌∷◌, ◌++◌, length, get_or, set, replicate, None, sym, refl, ap, ◌∙◌, subst, append_assoc, append-nil, arith}
use Rattle.std.proofs.lemmas.List.{set_at, length_push}
use Rattle.std.proofs.lemmas.Bool.{and_parts, and_from, both_ways, leb-true}
use Rattle.program.specs.Basics.{all, eight, flat_map}
use Rattle.encoding.proofs.Lengths.{length_eights}
use Rattle.encoding.proofs.Standing.{stands_nil, stands_join, stands_move}
use Rattle.encoding.proofs.ProgramParts.{number_stands}
use Rattle.scanner.specs.Bytes.{NumberFound}
use Rattle.reader.specs.Request.{array_length, LengthsAt, LengthsRead}
use Rattle.scanner.proofs.Parts.{eight_within, eight_same}

all_push : (p : ℕ → Bool) (ns : List ℕ) (n : ℕ) → all p ns ≡ true → p n ≡ true → all p (ns ++ n ∷ []) ≡ true
all_push p [] n h e = and_from (p n) true e refl
all_push p (m ∷ ns) n h e = let q = and_parts (p m) (all p ns) h in and_from (p m) _ q.0 (all_push p ns n q.1 e)

all_at : (p : ℕ → Bool) (ns : List ℕ) (i : ℕ) → all p ns ≡ true → i < length ns → p (get_or ns i 0) ≡ true
all_at p [] i h l = absurd (omega arith)
all_at p (n ∷ ns) zero h l = (and_parts (p n) (all p ns) h).0
all_at p (n ∷ ns) (suc i) h l = all_at p ns i (and_parts (p n) (all p ns) h).1 (omega arith)

eights_push : (ns : List ℕ) (n : ℕ) → flat_map eight (ns ++ n ∷ []) ≡ flat_map eight ns ++ eight n
eights_push [] n = append-nil (eight n)
eights_push (m ∷ ns) n = rw (eights_push ns n) (sym (append_assoc (eight m) (flat_map eight ns) (eight n)))

pub lengths_none : (text : List ℕ) (pos : ℕ) → LengthsAt text pos 0 (replicate 16 0)
lengths_none text pos = record { ns = []; counted = refl; allowed = refl; stands = stands_nil text pos; padded = refl }

pub lengths_more : (text : List ℕ) (pos i : ℕ) (ls : List ℕ) (n : ℕ) → LengthsAt text pos i ls → i < 16 → NumberFound text (pos + 8 * i) n → array_length n ≡ true → LengthsAt text pos (i + 1) (set ls i n)
lengths_more text pos i ls n h l f e =
    let at : pos + 8 * i ≡ pos + length (flat_map eight h.ns) = omega (arith, length_eights h.ns, h.counted) in
    let room : 16 - i ≡ suc (16 - (i + 1)) = omega arith in
    record {
      ns = h.ns ++ n ∷ [];
      counted = omega (arith, length_push h.ns n, h.counted);
      allowed = all_push array_length h.ns n h.allowed e;
      stands = rw (eights_push h.ns n) (stands_join text pos (flat_map eight h.ns) (eight n) h.stands (stands_move text (pos + 8 * i) _ (eight n) at f.stands));
      padded =
          ap (λ (xs : List ℕ). set xs i n) (h.padded ∙ ap (λ (m : ℕ). h.ns ++ replicate m 0) room)
          ∙ set_at h.ns 0 (replicate (16 - (i + 1)) 0) n i h.counted
          ∙ sym (append_assoc h.ns (n ∷ []) (replicate (16 - (i + 1)) 0));
    }

pub lengths_past : (text : List ℕ) (pos i count : ℕ) → i < count → length text < pos + 8 * i + 8 → LengthsRead text pos count None
lengths_past text pos i count l u ns c e h = omega (arith, eight_within text (pos + 8 * i) (get_or ns i 0) (number_stands text ns pos i h (omega arith)))

pub lengths_wrong : (text : List ℕ) (pos i count n : ℕ) → i < count → NumberFound text (pos + 8 * i) n → array_length n ≡ false → LengthsRead text pos count None
lengths_wrong text pos i count n l f w ns c e h =
    let m = get_or ns i 0 in
    let good : array_length (get_or ns i 0) ≡ true = all_at array_length ns i e (omega arith) in
    let small = leb-true (get_or ns i 0) 65536 (and_parts (leb 1 (get_or ns i 0)) (leb (get_or ns i 0) 65536) good).1 in
    let same = eight_same text (pos + 8 * i) n (get_or ns i 0) f (number_stands text ns pos i h (omega arith)) (omega arith) in
    both_ways (array_length n) w (subst (λ (k : ℕ). array_length k ≡ true) (sym same) good)
