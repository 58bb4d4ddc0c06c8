-- A file is taken apart in one way only. Rests on that numbers are read back from their eight bytes.
use Rattle.std.proofs.Common.{◌≡◌, ℕ, ◌+◌, ◌-◌, ◌^◌, ◌<◌, List, [], ◌∷◌, ◌++◌, length, take, drop, sym, refl, ap, ◌∙◌, subst, append_assoc, append-nil, arith, Bor, ◌≤◌, Option, Some, None, MatchOption, length-append, length-drop, take_all, take_at, drop_at}
use Rattle.program.specs.Basics.{in_bytes, eight}
use Rattle.encoding.specs.Reader.{ok, read_eight}
use Rattle.encoding.specs.Standing.{Stands}
use Rattle.encoding.proofs.ReadBack.{eight_back}
use Rattle.encoding.proofs.Lengths.{length_eight}
use Rattle.std.specs.List.{IsSplitAt}
use Rattle.std.proofs.lemmas.List.{take-append-drop}
use Rattle.script.specs.Script.{joined, Begins}

-- the length of a file that begins with a command
pub begins_long : (file c rest : List ℕ) → file ≡ eight (length c) ++ (c ++ rest) → length file ≡ 8 + (length c + length rest)
begins_long file c rest e = ap length e ∙ length-append (eight (length c)) (c ++ rest) ∙ simp (length-append, length_eight) refl

-- the same bytes begin with the same command
pub begins_same : (c rest d more : List ℕ) → length c < 2 ^ 64 → length d < 2 ^ 64 → eight (length c) ++ (c ++ rest) ≡ eight (length d) ++ (d ++ more) → (c ≡ d) × (rest ≡ more)
begins_same c rest d more h g e =
    let f : ok (length c) (c ++ rest) ≡ ok (length d) (d ++ more) = sym (eight_back (length c) (c ++ rest) h) ∙ ap read_eight e ∙ eight_back (length d) (d ++ more) g in
    let l : length c ≡ length d = cc in
    let b : c ++ rest ≡ d ++ more = cc in (
      sym (take_at c rest (length d) l) ∙ ap (λ (xs : List ℕ). take (length d) xs) b ∙ take_at d more (length d) refl,
      sym (drop_at c rest (length d) l) ∙ ap (λ (xs : List ℕ). drop (length d) xs) b ∙ drop_at d more (length d) refl,
    )

-- one command more
pub joined_more : (cs : List (List ℕ)) (c : List ℕ) → joined (cs ++ c ∷ []) ≡ joined cs ++ (eight (length c) ++ c)
joined_more [] c = rw (append-nil c) refl
joined_more (b ∷ cs) c =
    rw (joined_more cs c, append_assoc (eight (length b)) (b ++ joined cs) (eight (length c) ++ c), append_assoc b (joined cs) (eight (length c) ++ c)) refl

-- commands so far and what is left of the file: it is made of them in no other way
pub record SplitSo (file rest : List ℕ) (cs : List (List ℕ)) : Type 0 where
  pub is : joined cs ++ rest ≡ file
  pub only : (bs : List (List ℕ)) → joined bs ≡ file → (ds : List (List ℕ)) × (joined ds ≡ rest)

pub split_first : (file : List ℕ) → SplitSo file file []
split_first file = record { is = refl; only = λ bs e. (bs, e) }

pub split_more : (file rest behind c : List ℕ) (cs : List (List ℕ)) → length file < 2 ^ 64 → rest ≡ eight (length c) ++ (c ++ behind) → SplitSo file rest cs → SplitSo file behind (cs ++ c ∷ [])
split_more file rest behind c cs l e s =
    record {
      is = rw (joined_more cs c, append_assoc (joined cs) (eight (length c) ++ c) behind, append_assoc (eight (length c)) c behind, ← e) s.is;
      only = λ bs f. let (ds, g) = s.only bs f in next ds g;
    }
  where
    long : length rest ≡ 8 + (length c + length behind)
    long = begins_long rest c behind e

    next : (ds : List (List ℕ)) → joined ds ≡ rest → (more : List (List ℕ)) × (joined more ≡ behind)
    next [] g = let k : 0 ≡ length rest = ap length g in absurd (omega (arith, long))
    next (d ∷ ds) g =
        let k = begins_long rest d (joined ds) (sym g) in
        let m : length (joined cs) + length rest ≡ length file = sym (length-append (joined cs) rest) ∙ ap length s.is in
        (ds, (begins_same d (joined ds) c behind (omega arith) (omega (arith, long)) (g ∙ e)).1)

-- what is left begins with no command
pub split_damaged : (file rest : List ℕ) (cs : List (List ℕ)) → (length rest ≡ 0 → ⊥) → SplitSo file rest cs → ((c behind : List ℕ) → rest ≡ eight (length c) ++ (c ++ behind) → ⊥) →
    (bs : List (List ℕ)) → joined bs ≡ file → ⊥
split_damaged file rest cs some s no_first bs e = let (ds, g) = s.only bs e in none ds g
  where
    none : (ds : List (List ℕ)) → joined ds ≡ rest → ⊥
    none [] g = some (sym (ap length g))
    none (d ∷ ds) g = no_first d (joined ds) (sym g)

-- nothing is left
pub split_all : (file rest : List ℕ) (cs : List (List ℕ)) → length rest ≡ 0 → SplitSo file rest cs → joined cs ≡ file
split_all file [] cs e s = sym (append-nil (joined cs)) ∙ s.is
split_all file (x ∷ rest) cs e s = absurd (omega arith)

-- a number at the front of a file is its first command's length
pub first_size : (file c rest : List ℕ) (n : ℕ) → n < 2 ^ 64 → length file < 2 ^ 64 → Stands file 0 (eight n) → file ≡ eight (length c) ++ (c ++ rest) → n ≡ length c
first_size file c rest n h l s e =
    let k = begins_long file c rest e in
    let f : ok n (drop (0 + length (eight n)) file) ≡ ok (length c) (c ++ rest) = sym (eight_back n (drop (0 + length (eight n)) file) h) ∙ ap read_eight (sym s ∙ e) ∙ eight_back (length c) (c ++ rest) (omega arith) in
    cc

-- all that stands behind the first eight bytes
pub behind_eight : (file : List ℕ) → take (length file - 8) (drop 8 file) ≡ drop 8 file
behind_eight file = take_all (length file - 8) (drop 8 file) (simp length-drop (omega arith))

pub first_stands : (file c rest : List ℕ) (n : ℕ) → Stands file 0 (eight n) → length c ≡ n → drop 8 file ≡ c ++ rest → file ≡ eight (length c) ++ (c ++ rest)
unfolding in_bytes
first_stands file c rest n s l e = rw (l, ← e) s

-- a first number that is too large for what stands behind it
pub too_short : (file : List ℕ) (n : ℕ) → n < 2 ^ 64 → length file < 2 ^ 64 → Stands file 0 (eight n) → length file < 8 + n → Begins file None
too_short file n h l s short =
    λ c rest e.
    let k = begins_long file c rest e in
    let size = first_size file c rest n h l s e in
    omega arith

-- what stands behind a first number is taken apart by it, or is too short for it
pub begins_so : (file : List ℕ) (n : ℕ) (r : Option (Bor (List ℕ) × Bor (List ℕ))) → n < 2 ^ 64 → length file < 2 ^ 64 → 8 ≤ length file → Stands file 0 (eight n) →
    MatchOption r (length (take (length file - 8) (drop 8 file)) < n) (λ p. IsSplitAt (take (length file - 8) (drop 8 file)) n p.0.now p.1.now) → Begins file r
begins_so file n None h l some s short = let behind = ap length (behind_eight file) in too_short file n h l s (omega (arith, simp length-drop at behind))
begins_so file n (Some p) h l some s split =
    let all = take (length file - 8) (drop 8 file) in
    first_stands file p.0.now p.1.now n s split.3
    (sym (behind_eight file) ∙ sym (take-append-drop n all) ∙ ap (λ (x : List ℕ). x ++ drop n all) (sym split.1) ∙ ap (λ (x : List ℕ). p.0.now ++ x) (sym split.2))

-- the first command that was found
pub taken : (rest : List ℕ) (o : Option (Bor (List ℕ) × Bor (List ℕ))) (x : Bor (List ℕ) × Bor (List ℕ)) → Begins rest o → o ≡ Some x → rest ≡ eight (length x.0.now) ++ (x.0.now ++ x.1.now)
taken rest o x b is = subst (λ (p : Option (Bor (List ℕ) × Bor (List ℕ))). Begins rest p) is b

-- none was found
pub none_taken : (rest : List ℕ) (o : Option (Bor (List ℕ) × Bor (List ℕ))) → Begins rest o → o ≡ None → (c behind : List ℕ) → rest ≡ eight (length c) ++ (c ++ behind) → ⊥
none_taken rest o b is = subst (λ (p : Option (Bor (List ℕ) × Bor (List ℕ))). Begins rest p) is b
