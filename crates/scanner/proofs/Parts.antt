-- Scans of bytes, numbers and ranges. Rests on what is proved of bytes that stand in a text.
use Rattle.std.proofs.Common.{◌≡◌, ℕ, ◌+◌, ◌^◌, ◌<◌, ◌≤◌, Bool, true, false, ◌&&◌, ltb, leb, List, [], ◌∷◌, ◌++◌, length, Some, None, sym, refl, ap, ◌∙◌, arith, length-append}
use Rattle.std.proofs.lemmas.Bool.{and_parts, both_ways, ltb-true, leb-true, lt-ltb}
use Rattle.program.specs.Basics.{eight, limit}
use Rattle.encoding.specs.Standing.{Stands}
use Rattle.encoding.proofs.Lengths.{length_eight}
use Rattle.encoding.proofs.Standing.{stands_two, stands_join, stands_first, stands_cons, stands_nil, stands_within, stands_move, eight_stands}
use Rattle.scanner.specs.Bytes.{ByteAt, NumberFound}
use Rattle.scanner.specs.Form.{Here, Scanned}
use Rattle.scanner.specs.Parts.{byte_form, eight_form, range_form}

-- some bytes end within the text
pub some_within : (text : List ℕ) (pos : ℕ) (bs : List ℕ) → 1 ≤ length bs → Stands text pos bs → pos + length bs ≤ length text
some_within text pos [] l h = absurd (omega arith)
some_within text pos (b ∷ bs) l h = stands_within text pos b bs h

-- bytes

pub byte_past : (n : ℕ) (text : List ℕ) (pos : ℕ) → length text ≤ pos → Scanned (byte_form n) text pos None
byte_past n text pos l b h = omega (arith, stands_within text pos b [] h.stands)

pub byte_wrong : (n : ℕ) (text : List ℕ) (pos b : ℕ) → ByteAt text pos b → n ≤ b → Scanned (byte_form n) text pos None
byte_wrong n text pos b at l v h = omega (arith, (stands_first text pos v [] h.stands).0, at.is, ltb-true v n h.passes)

pub byte_found : (n : ℕ) (text : List ℕ) (pos b : ℕ) → ByteAt text pos b → b < n → Scanned (byte_form n) text pos (Some (pos + 1))
byte_found n text pos b at l =
    let stands = stands_cons text pos (pos + 1) b [] at.inside at.is refl (stands_nil text (pos + 1)) in
    ((b, (record { passes = lt-ltb b n l; stands = stands }, refl)), λ v h. refl)

-- numbers in eight bytes

pub eight_within : (text : List ℕ) (pos n : ℕ) → Stands text pos (eight n) → pos + 8 ≤ length text
eight_within text pos n h = omega (arith, length_eight n, some_within text pos (eight n) (omega (arith, length_eight n)) h)

pub eight_same : (text : List ℕ) (pos n m : ℕ) → NumberFound text pos n → Stands text pos (eight m) → m < 2 ^ 64 → n ≡ m
eight_same text pos n m f h l = eight_stands text pos n f.stands f.small ∙ sym (eight_stands text pos m h l)

pub eight_past : (p : ℕ → Bool) (text : List ℕ) (pos : ℕ) → length text < pos + 8 → Scanned (eight_form p) text pos None
eight_past p text pos l n h = omega (arith, eight_within text pos n h.stands)

pub eight_wrong : (p : ℕ → Bool) (text : List ℕ) (pos n : ℕ) → ((m : ℕ) → p m ≡ true → m < 2 ^ 64) → NumberFound text pos n → p n ≡ false → Scanned (eight_form p) text pos None
eight_wrong p text pos n small f e m h =
    let same = eight_same text pos n m f h.stands (small m h.passes) in
    both_ways (p m) (ap p (sym same) ∙ e) h.passes

pub eight_found : (p : ℕ → Bool) (text : List ℕ) (pos n : ℕ) → NumberFound text pos n → p n ≡ true → Scanned (eight_form p) text pos (Some (pos + 8))
eight_found p text pos n f e = ((n, (record { passes = e; stands = f.stands }, omega (arith, length_eight n))), λ m h. omega (arith, length_eight m))

-- ranges

range_parts : (text : List ℕ) (pos : ℕ) (p : ℕ × ℕ) → Here range_form text pos p → Stands text pos (eight p.0) × Stands text (pos + 8) (eight p.1)
range_parts text pos p h =
    let q = stands_two text pos (eight p.0) (eight p.1) h.stands in
    (q.0, stands_move text (pos + length (eight p.0)) (pos + 8) (eight p.1) (omega (arith, length_eight p.0)) q.1)

pub range_past : (text : List ℕ) (pos : ℕ) → length text < pos + 16 → Scanned range_form text pos None
range_past text pos l p h = omega (arith, eight_within text (pos + 8) p.1 (range_parts text pos p h).1)

pub range_wrong : (text : List ℕ) (pos a b : ℕ) → NumberFound text pos a → NumberFound text (pos + 8) b → (leb a b && ltb b limit) ≡ false → Scanned range_form text pos None
range_wrong text pos a b f g e p h =
    let q = range_parts text pos p h in
    let r = and_parts (leb p.0 p.1) (ltb p.1 limit) h.passes in
    let high = ltb-true p.1 limit r.1 in
    let same-a = eight_same text pos a p.0 f q.0 (omega (arith, leb-true p.0 p.1 r.0)) in
    let same-b = eight_same text (pos + 8) b p.1 g q.1 (omega arith) in
    both_ways _ (rw (sym same-a, sym same-b) e) h.passes

pub range_found : (text : List ℕ) (pos a b : ℕ) → NumberFound text pos a → NumberFound text (pos + 8) b → (leb a b && ltb b limit) ≡ true → Scanned range_form text pos (Some (pos + 16))
range_found text pos a b f g e =
    let length-range : (c d : ℕ) → pos + 16 ≡ pos + length (eight c ++ eight d) = λ c d. simp length-append (omega (arith, length_eight c, length_eight d)) in
    let second = stands_move text (pos + 8) (pos + length (eight a)) (eight b) (omega (arith, length_eight a)) g.stands in
    (((a, b), (record { passes = e; stands = stands_join text pos (eight a) (eight b) f.stands second }, length-range a b)), λ p h. length-range p.0 p.1)
