-- Words and numbers, by the runs of their bytes. Rests on the definitions alone.
use Rattle.std.proofs.Common.{◌≡◌, ℕ, ◌+◌, ◌-◌, ◌^◌, ◌<◌, ◌≤◌, Bool, true, false, List, length, get_or, take, drop, IsUtf8, Option, Result, Ok, Err, sym, refl, ◌∙◌, subst, arith, rules, get_or-drop, lt-ltb, nat_lt}
use Rattle.std.proofs.lemmas.Bool.{ltb-true}
use Rattle.std.specs.Str.{IsCharBoundary}
use Rattle.std.specs.Str.Parse.{ParsesUnsigned}
use Rattle.std.specs.Int.{IsInRange}
use Rattle.std.specs.Result.{OkIff}
use Rattle.std.proofs.lemmas.List.{drop_more, get_or-take}
use Rattle.std.proofs.lemmas.List.Sums.{prefix_len-drop_yes, prefix_len_passes}
use Rattle.std.proofs.lemmas.List.Folds.{length-prefix_len}
use Rattle.std.proofs.lemmas.Str.{IsCharBoundary-before_ascii, IsCharBoundary-after_ascii}
use Rattle.std.proofs.lemmas.Str.Parse.{IsNumeralModel, numerals_by_fold, tells_by_index, parse_digits}
use Rattle.std.proofs.lemmas.Bool.Decides.{nat_tests}
use Rattle.lexer.specs.declared.types.Key.{Key}
use Rattle.lexer.specs.Keys.{keyword, symbol}
use Rattle.lexer.specs.Lexing.{letter, digit, word_byte, run, value, number, large, token, first, word_or_key, first_word, first_number, number_or_large, symbol_or_strange}

pub letter_word : (b : ℕ) → letter b ≡ true → word_byte b ≡ true
letter_word b h = grind (arith, nat_tests)

pub word_ascii : (b : ℕ) → word_byte b ≡ true → b < 128
word_ascii b h = grind (arith, nat_tests)

pub digit_ascii : (b : ℕ) → digit b ≡ true → b < 128
digit_ascii b h = grind (arith, nat_tests)

-- a run that begins at a byte has that byte at least
pub run_past : (p : ℕ → Bool) (bs : List ℕ) (i end : ℕ) → i < length bs → p (get_or bs i 0) ≡ true → end ≡ i + run p (drop i bs) → i < end
run_past p bs i end h e f = let m = prefix_len-drop_yes p bs i 0 h e in omega arith

-- a text may be cut before a run of ASCII
pub run_begins : (p : ℕ → Bool) (ascii : (b : ℕ) → p b ≡ true → b < 128) (bs : List ℕ) (i : ℕ) → i < length bs → p (get_or bs i 0) ≡ true → IsCharBoundary bs i
run_begins p ascii bs i h e = IsCharBoundary-before_ascii bs i h (ascii (get_or bs i 0) e)

-- and behind it
pub run_ends : (p : ℕ → Bool) (ascii : (b : ℕ) → p b ≡ true → b < 128) (bs : List ℕ) (i end : ℕ) → IsUtf8 bs → i < length bs → p (get_or bs i 0) ≡ true → end ≡ i + run p (drop i bs) → end ≤ length bs →
    IsCharBoundary bs end
run_ends p ascii bs i end u h e f l =
    let s = run_past p bs i end h e f in
    let n = run p (drop i bs) in
    let a : get_or bs (i + (n - 1)) 0 < 128 = rw (← get_or-drop i bs (n - 1) 0) (ascii (get_or (drop i bs) (n - 1) 0) (prefix_len_passes p (drop i bs) (n - 1) 0 (omega arith))) in
    let k : i + (n - 1) + 1 ≡ end = omega arith in
    subst (IsCharBoundary bs) k (IsCharBoundary-after_ascii bs (i + (n - 1)) u (omega arith) a)

-- what stands at a letter, at a digit and at another byte
pub first_letter : (bs : List ℕ) (i : ℕ) → i < length bs → letter (get_or bs i 0) ≡ true → first (drop i bs) ≡ first_word (run word_byte (drop i bs)) (drop i bs)
unfolding first
first_letter bs i h e = rw (drop_more bs i 0 h, e) refl

pub first_digit : (bs : List ℕ) (i : ℕ) → i < length bs → letter (get_or bs i 0) ≡ false → digit (get_or bs i 0) ≡ true → first (drop i bs) ≡ first_number (run digit (drop i bs)) (drop i bs)
unfolding first
first_digit bs i h e f = rw (drop_more bs i 0 h, e, f) refl

pub first_other : (bs : List ℕ) (i : ℕ) → i < length bs → letter (get_or bs i 0) ≡ false → digit (get_or bs i 0) ≡ false → first (drop i bs) ≡ symbol_or_strange (symbol (get_or bs i 0))
unfolding first
first_other bs i h e f = rw (drop_more bs i 0 h, e, f) refl

-- the word or keyword that was cut out
pub word_first : (bs w : List ℕ) (i end : ℕ) (o : Option Key) → end ≡ i + run word_byte (drop i bs) → w ≡ take (end - i) (drop i bs) → o ≡ keyword w →
    token (word_or_key w o) (end - i) ≡ first_word (run word_byte (drop i bs)) (drop i bs)
word_first bs w i end o e f g =
    let k : end - i ≡ run word_byte (drop i bs) = omega arith in
    rw (g, f, k) refl

-- digits read as a number, or that are too large
own : IsNumeralModel (λ ds. (i : ℕ) → i < length ds → IsInRange 48 57 (get_or ds i 0)) (value 0)
own = numerals_by_fold _ tells_by_index value (search rules)

digit_range : (b : ℕ) → digit b ≡ true → IsInRange 48 57 b
digit_range b h = (grind (arith, nat_tests), grind (arith, nat_tests))

-- the digits at a byte
digits_run : (bs ds : List ℕ) (i end : ℕ) → end ≡ i + run digit (drop i bs) → ds ≡ take (end - i) (drop i bs) → (k : ℕ) → k < length ds → IsInRange 48 57 (get_or ds k 0)
digits_run bs ds i end e d k h =
    let n : end - i ≡ run digit (drop i bs) = omega arith in
    let l : k < run digit (drop i bs) = rw length-prefix_len at (rw (d, n) at h) in
    let e₁ : get_or ds k 0 ≡ get_or (drop i bs) k 0 = rw (d, n) (get_or-take (run digit (drop i bs)) (drop i bs) k 0 l) in
    subst (IsInRange 48 57) (sym e₁) (digit_range (get_or (drop i bs) k 0) (prefix_len_passes digit (drop i bs) k 0 l))

-- what k bits read of the digits at a byte: a number, which is a token or too large; or nothing, since they are too large
abbrev pub DigitsRead : {E : Type 0} → ℕ → List ℕ → ℕ → ℕ → Result ℕ E → Type 0
DigitsRead k bs i end (Ok n) = (n < 2 ^ k) × (number_or_large n (end - i) ≡ first_number (run digit (drop i bs)) (drop i bs))
DigitsRead k bs i end (Err _) = large ≡ first_number (run digit (drop i bs)) (drop i bs)

-- of a run of digits cut out, what k bits read of it
pub number_read : {E : Type 0} (k : ℕ) (bs ds : List ℕ) (i end : ℕ) (r : Result ℕ E) → 2 ^ 32 ≤ 2 ^ k → i < end → end ≡ i + run digit (drop i bs) → ds ≡ take (end - i) (drop i bs) → ParsesUnsigned k 10 ds r →
    DigitsRead k bs i end r
number_read {E} k bs ds i end r wide s e d p = go r (parse_digits own k ds r p (digits_run bs ds i end e d))
  where
    n : end - i ≡ run digit (drop i bs)
    n = omega arith

    v : value 0 (take (run digit (drop i bs)) (drop i bs)) ≡ value 0 ds
    v = rw (d, n) refl

    some : 0 < length ds
    some = let q : length ds ≡ run digit (drop i bs) = rw (d, n) (length-prefix_len digit (drop i bs)) in omega arith

    cut : (b : Bool) → nat_lt (value 0 ds) (2 ^ 32) ≡ b → ((0 < length ds) × (value 0 ds < 2 ^ k) → ⊥) → b ≡ false
    cut true e h = let l = ltb-true (value 0 ds) (2 ^ 32) e in absurd (h (some, omega (arith, wide)))
    cut false e h = refl

    go : (r : Result ℕ E) → OkIff r ((0 < length ds) × (value 0 ds < 2 ^ k)) (value 0 ds) → DigitsRead k bs i end r
    go (Ok m) h =
        let g : value 0 (take (run digit (drop i bs)) (drop i bs)) ≡ m = v ∙ sym h.1 in
        (rw h.1 h.0.1, rw (g, n) refl)
    go (Err x) h = rw (v, cut (nat_lt (value 0 ds) (2 ^ 32)) refl h) refl

-- a number below the limit is a token
pub number_fits : (n size : ℕ) → n < 2 ^ 32 → number_or_large n size ≡ token (number n) size
number_fits n size h = rw (lt-ltb n (2 ^ 32) h) refl
