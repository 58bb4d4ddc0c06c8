-- Bytes that stand at a position of a text: taken apart, put together, and eight of them as a number. Rests on the definitions alone.
use Rattle.std.proofs.Common.{◌≡◌, ℕ, suc, ◌+◌, ◌*◌, ◌/◌, ◌%◌, ◌<◌, ◌≤◌, List, [], ◌∷◌, ◌++◌, length, get_or, drop, sym, refl, ap, ◌∙◌, subst, append_assoc, add-zero, arith, length-append, length-drop, get_or-drop, drop-drop}
use lib.Arith.{digits_div, digits_mod}
use lib.ListN.{get_or-append}
use lib.Seq.{drop-append_seam}
use Rattle.std.proofs.ByRecursion.{All-get_or}
use Rattle.std.proofs.lemmas.List.{drop_more}
use Rattle.std.specs.List.{AllByRecursion as All}
use Rattle.program.specs.Basics.{eight, in_bytes}
use Rattle.encoding.specs.Standing.{Stands, word_at, EightBytes}

-- what comes behind the bytes
pub drop_behind : (text : List ℕ) (pos : ℕ) (bs rest : List ℕ) → drop pos text ≡ bs ++ rest → drop (pos + length bs) text ≡ rest
drop_behind text pos bs rest h = sym (drop-drop (length bs) pos text) ∙ ap (λ (ys : List ℕ). drop (length bs) ys) h ∙ drop-append_seam bs rest

pub stands_from : (text : List ℕ) (pos : ℕ) (bs rest : List ℕ) → drop pos text ≡ bs ++ rest → Stands text pos bs
stands_from text pos bs rest h = rw (drop_behind text pos bs rest h) h

pub stands_move : (text : List ℕ) (pos next : ℕ) (bs : List ℕ) → pos ≡ next → Stands text pos bs → Stands text next bs
stands_move text pos next bs e h = subst (λ (at : ℕ). Stands text at bs) e h

pub stands_two : (text : List ℕ) (pos : ℕ) (as₁ bs : List ℕ) → Stands text pos (as₁ ++ bs) → Stands text pos as₁ × Stands text (pos + length as₁) bs
stands_two text pos as₁ bs h =
    let rest = drop (pos + length (as₁ ++ bs)) text in
    let e = h ∙ append_assoc as₁ bs rest in
    (stands_from text pos as₁ (bs ++ rest) e, stands_from text (pos + length as₁) bs rest (drop_behind text pos as₁ (bs ++ rest) e))

pub stands_join : (text : List ℕ) (pos : ℕ) (as₁ bs : List ℕ) → Stands text pos as₁ → Stands text (pos + length as₁) bs → Stands text pos (as₁ ++ bs)
stands_join text pos as₁ bs h k =
    let rest = drop (pos + length as₁ + length bs) text in
    stands_from text pos (as₁ ++ bs) rest (h ∙ ap (λ (ys : List ℕ). as₁ ++ ys) k ∙ sym (append_assoc as₁ bs rest))

pub stands_nil : (text : List ℕ) (pos : ℕ) → Stands text pos []
stands_nil text pos = rw (add-zero pos) refl

-- one byte or more end within the text
pub stands_within : (text : List ℕ) (pos b : ℕ) (bs : List ℕ) → Stands text pos (b ∷ bs) → pos + length (b ∷ bs) ≤ length text
stands_within text pos b bs h =
    let rest = drop (pos + length (b ∷ bs)) text in
    omega (arith, ap length h, length-drop pos text, length-append bs rest, length-drop (pos + length (b ∷ bs)) text)

pub stands_inside : (text : List ℕ) (pos : ℕ) (bs : List ℕ) → 1 ≤ length bs → Stands text pos bs → pos + length bs ≤ length text
stands_inside text pos [] l h = absurd (omega arith)
stands_inside text pos (b ∷ bs) l h = stands_within text pos b bs h

-- the i-th of the bytes
pub stands_at : (text : List ℕ) (pos : ℕ) (bs : List ℕ) (i : ℕ) → Stands text pos bs → i < length bs → get_or text (pos + i) 0 ≡ get_or bs i 0
stands_at text pos bs i h l =
    sym (get_or-drop pos text i 0) ∙ ap (λ (ys : List ℕ). get_or ys i 0) h ∙ get_or-append bs (drop (pos + length bs) text) 0 i l

pub stands_first : (text : List ℕ) (pos b : ℕ) (bs : List ℕ) → Stands text pos (b ∷ bs) → (get_or text pos 0 ≡ b) × Stands text (pos + 1) bs
stands_first text pos b bs h = (ap (λ (at : ℕ). get_or text at 0) (sym (add-zero pos)) ∙ stands_at text pos (b ∷ bs) 0 h (omega arith), (stands_two text pos (b ∷ []) bs h).1)

pub stands_cons : (text : List ℕ) (pos next b : ℕ) (bs : List ℕ) → pos < length text → get_or text pos 0 ≡ b → next ≡ pos + 1 → Stands text next bs → Stands text pos (b ∷ bs)
stands_cons text pos next b bs l e n h =
    let k = stands_move text next (pos + 1) bs n h in
    stands_from text pos (b ∷ bs) (drop (pos + 1 + length bs) text) (drop_more text pos 0 l ∙ ap (λ (c : ℕ). c ∷ drop (pos + 1) text) e ∙ ap (λ (ys : List ℕ). b ∷ ys) k)

-- the number that stands in eight bytes
pub eight_stands : (text : List ℕ) (pos n : ℕ) → Stands text pos (eight n) → n < 18446744073709551616 → n ≡ word_at text pos
unfolding in_bytes
eight_stands text pos n h l =
    let at : (i : ℕ) → i < 8 → get_or text (pos + i) 0 ≡ get_or (eight n) i 0 = λ i k. stands_at text pos (eight n) i h k in
    let b0 : get_or text pos 0 ≡ n / 256 / 256 / 256 / 256 / 256 / 256 / 256 % 256 = ap (λ (at : ℕ). get_or text at 0) (sym (add-zero pos)) ∙ at 0 (omega arith) in
    let b1 = at 1 (omega arith) in let b2 = at 2 (omega arith) in let b3 = at 3 (omega arith) in let b4 = at 4 (omega arith) in
    let b5 = at 5 (omega arith) in let b6 = at 6 (omega arith) in let b7 = at 7 (omega arith) in
    omega (arith, b1, b2, b3, b4, b5, b6, b7)

last_byte : (k n x : ℕ) (bs : List ℕ) → x < 256 → in_bytes (suc k) (n * 256 + x) bs ≡ in_bytes k n (x ∷ bs)
unfolding in_bytes
last_byte k n x bs h = rw (digits_div n h, digits_mod n h) refl

-- eight bytes are those of their number
pub eight_of : (a b c d e f g h : ℕ) → a < 256 → b < 256 → c < 256 → d < 256 → e < 256 → f < 256 → g < 256 → h < 256 →
    eight (((((((a * 256 + b) * 256 + c) * 256 + d) * 256 + e) * 256 + f) * 256 + g) * 256 + h) ≡ a ∷ b ∷ c ∷ d ∷ e ∷ f ∷ g ∷ h ∷ []
unfolding in_bytes
eight_of a b c d e f g h la lb lc ld le lf lg lh =
    last_byte 7 ((((((a * 256 + b) * 256 + c) * 256 + d) * 256 + e) * 256 + f) * 256 + g) h [] lh
    ∙ last_byte 6 (((((a * 256 + b) * 256 + c) * 256 + d) * 256 + e) * 256 + f) g (h ∷ []) lg
    ∙ last_byte 5 ((((a * 256 + b) * 256 + c) * 256 + d) * 256 + e) f (g ∷ h ∷ []) lf
    ∙ last_byte 4 (((a * 256 + b) * 256 + c) * 256 + d) e (f ∷ g ∷ h ∷ []) le
    ∙ last_byte 3 ((a * 256 + b) * 256 + c) d (e ∷ f ∷ g ∷ h ∷ []) ld
    ∙ last_byte 2 (a * 256 + b) c (d ∷ e ∷ f ∷ g ∷ h ∷ []) lc
    ∙ last_byte 1 a b (c ∷ d ∷ e ∷ f ∷ g ∷ h ∷ []) lb
    ∙ ap (λ (x : ℕ). x ∷ b ∷ c ∷ d ∷ e ∷ f ∷ g ∷ h ∷ []) (omega arith)

-- the eight bytes at a position are those of the number there
pub word_stands : (text : List ℕ) (pos : ℕ) → pos + 8 ≤ length text → EightBytes text pos → Stands text pos (eight (word_at text pos))
word_stands text pos l h =
    let at : ℕ → ℕ = λ i. get_or text i 0 in
    let s7 = at (pos + 7) ∷ [] in let s6 = at (pos + 6) ∷ s7 in let s5 = at (pos + 5) ∷ s6 in let s4 = at (pos + 4) ∷ s5 in
    let s3 = at (pos + 3) ∷ s4 in let s2 = at (pos + 2) ∷ s3 in let s1 = at (pos + 1) ∷ s2 in
    rw (eight_of (at pos) (at (pos + 1)) (at (pos + 2)) (at (pos + 3)) (at (pos + 4)) (at (pos + 5)) (at (pos + 6)) (at (pos + 7)) h.0 h.1 h.2 h.3 h.4 h.5 h.6 h.7)
    (stands_cons text pos (pos + 1) (at pos) s1 (omega arith) refl refl
    (stands_cons text (pos + 1) (pos + 2) (at (pos + 1)) s2 (omega arith) refl (omega arith)
    (stands_cons text (pos + 2) (pos + 3) (at (pos + 2)) s3 (omega arith) refl (omega arith)
    (stands_cons text (pos + 3) (pos + 4) (at (pos + 3)) s4 (omega arith) refl (omega arith)
    (stands_cons text (pos + 4) (pos + 5) (at (pos + 4)) s5 (omega arith) refl (omega arith)
    (stands_cons text (pos + 5) (pos + 6) (at (pos + 5)) s6 (omega arith) refl (omega arith)
    (stands_cons text (pos + 6) (pos + 7) (at (pos + 6)) s7 (omega arith) refl (omega arith)
    (stands_cons text (pos + 7) (pos + 8) (at (pos + 7)) [] (omega arith) refl (omega arith) (stands_nil text (pos + 8))))))))))

-- in a text of bytes
pub bytes_eight : (text : List ℕ) (pos : ℕ) → All (λ b. b < 256) text → pos + 8 ≤ length text → EightBytes text pos
bytes_eight text pos h l =
    let at : (i : ℕ) → i < length text → get_or text i 0 < 256 = λ i k. All-get_or (λ b. b < 256) text i 0 k h in (
      at pos (omega arith),
      at (pos + 1) (omega arith),
      at (pos + 2) (omega arith),
      at (pos + 3) (omega arith),
      at (pos + 4) (omega arith),
      at (pos + 5) (omega arith),
      at (pos + 6) (omega arith),
      at (pos + 7) (omega arith),
    )
