-- White space and comments, run by run. Rests on the definitions alone.
use Rattle.std.proofs.Common.{◌≡◌, ℕ, ◌+◌, ◌<◌, ◌≤◌, ◌≢◌, Bool, true, false, not, eqb, ◌==◌, List, [], ◌∷◌, length, get_or, drop, sym, refl, subst, suc, zero-add, ne_eqb, ap, ◌∙◌, arith, get_or-drop}
use Rattle.std.proofs.lemmas.List.{drop-drop, drop_more, drop_all, length-drop}
use Rattle.std.proofs.lemmas.List.Sums.{prefix_len_stops, prefix_len-drop_yes}
use Rattle.std.proofs.lemmas.Bool.Decides.{nat_tests}
use Rattle.lexer.specs.Lexing.{white, run, blanks, past_blanks}

-- what a comment goes on with
abbrev pub in_line : ℕ → Bool
in_line b = not (b == 10)

newline : (b : ℕ) → b == 10 ≡ true → b ≡ 10
newline b h = grind (arith, nat_tests)

-- the blanks are the white space at the front, and the blanks behind it
white_first : (bs : List ℕ) → blanks false bs ≡ run white bs + blanks false (drop (run white bs) bs)
white_first [] = refl
white_first (b ∷ bs) = go (white b) refl (white_first bs)
  where
    go : (w : Bool) → white b ≡ w → blanks false bs ≡ run white bs + blanks false (drop (run white bs) bs) → blanks false (b ∷ bs) ≡ run white (b ∷ bs) + blanks false (drop (run white (b ∷ bs)) (b ∷ bs))
    go true e h = simp e (rw (← drop-drop (run white bs) 1 (b ∷ bs)) (omega (arith, h)))
    go false e h = simp e (sym (zero-add _))

-- those of a comment are the rest of its line, and the blanks from its end on
line_first : (bs : List ℕ) → blanks true bs ≡ run in_line bs + blanks false (drop (run in_line bs) bs)
line_first [] = refl
line_first (b ∷ bs) = go (b == 10) refl (line_first bs)
  where
    go : (w : Bool) → b == 10 ≡ w → blanks true bs ≡ run in_line bs + blanks false (drop (run in_line bs) bs) → blanks true (b ∷ bs) ≡ run in_line (b ∷ bs) + blanks false (drop (run in_line (b ∷ bs)) (b ∷ bs))
    go true e h = subst (λ (x : ℕ). blanks true (x ∷ bs) ≡ run in_line (x ∷ bs) + blanks false (drop (run in_line (x ∷ bs)) (x ∷ bs))) (sym (newline b e)) (sym (zero-add _))
    go false e h = simp e (rw (← drop-drop (run in_line bs) 1 (b ∷ bs)) (omega (arith, h)))

pub white_run : (bs : List ℕ) (i end : ℕ) → end ≡ i + run white (drop i bs) → past_blanks bs end ≡ past_blanks bs i
white_run bs i end e =
    let d : drop end bs ≡ drop (run white (drop i bs)) (drop i bs) = rw e (sym (drop-drop (run white (drop i bs)) i bs)) in
    rw (d, white_first (drop i bs), e) (omega arith)

-- no white space stands where a run of it ends
pub white_stops : (bs : List ℕ) (i end : ℕ) → end ≡ i + run white (drop i bs) → end < length bs → white (get_or bs end 0) ≡ false
white_stops bs i end e h =
    let l : run white (drop i bs) < length (drop i bs) = rw (length-drop i bs) (omega arith) in
    rw e (sym (ap white (get_or-drop i bs (run white (drop i bs)) 0)) ∙ prefix_len_stops white (drop i bs) 0 l)

-- a comment is the rest of its line, which has a byte at least
pub comment_run : (bs : List ℕ) (i end : ℕ) → i < length bs → get_or bs i 0 ≡ 35 → end ≡ i + run in_line (drop i bs) → past_blanks bs end ≡ past_blanks bs i
comment_run bs i end h c e =
    let xs = drop (i + 1) bs in
    let m : run in_line (drop i bs) ≡ 1 + run in_line xs = prefix_len-drop_yes in_line bs i 0 h (rw c refl) in
    let k : end ≡ i + 1 + run in_line xs = omega arith in
    let d : drop end bs ≡ drop (run in_line xs) xs = rw k (sym (drop-drop (run in_line xs) (i + 1) bs)) in
    let f : drop i bs ≡ 35 ∷ xs = drop_more bs i 0 h ∙ ap (λ b. b ∷ xs) c in
    let g : blanks false (drop i bs) ≡ suc (run in_line xs + blanks false (drop (run in_line xs) xs)) = rw f (ap suc (line_first xs)) in
    rw (d, g) (omega arith)

pub comment_some : (bs : List ℕ) (i end : ℕ) → i < length bs → get_or bs i 0 ≡ 35 → end ≡ i + run in_line (drop i bs) → i < end
comment_some bs i end h c e = let m = prefix_len-drop_yes in_line bs i 0 h (rw c refl) in omega arith

-- where neither white space nor a comment begins, there is none
pub none_here : (bs : List ℕ) (i : ℕ) → i < length bs → white (get_or bs i 0) ≡ false → get_or bs i 0 ≢ 35 → past_blanks bs i ≡ i
none_here bs i h w c =
    let f : eqb (get_or bs i 0) 35 ≡ false = ne_eqb _ 35 c in
    rw (drop_more bs i 0 h, w, f) (omega arith)

pub none_left : (bs : List ℕ) (i : ℕ) → length bs ≤ i → past_blanks bs i ≡ i
none_left bs i h = rw (drop_all i bs h) (omega arith)
