-- A text token by token: what is read so far, and the rest. Rests on the definitions, and on words' numbers.
use Rattle.std.proofs.Common.{◌≡◌, ℕ, zero, suc, ◌+◌, ◌-◌, ◌<◌, ◌≤◌, List, [], ◌∷◌, ◌++◌, map, length, drop, Ok, Err, sym, refl, ap, ◌∙◌, subst, append_assoc, append-nil, arith, length-append, Bor}
use Rattle.std.specs.List.{AllByRecursion}
use Rattle.std.proofs.lemmas.List.{drop_all}
use Rattle.lexer.specs.declared.types.Token.{Token}
use Rattle.lexer.specs.Lexing.{Piece, strange, large, token, first, Lexing, complete, character, too_large, then_token, past_blanks, lex_from, lexing}
use Rattle.lexer.specs.declared.error.LexError.{LexError}
use Rattle.lexer.specs.declared.error.LexError.TheVariants.{NoMemory, Character, TooLarge}
use Rattle.lexer.specs.Pieces.{as_first, Ends}
use Rattle.lexer.specs.Tokens.{texts, spell, Different, Numbered, Bounded, Ascending, Tokens, Takes, Lexes}
use Rattle.lexer.proofs.Numbering.{taken}

-- tokens before others
abbrev prefixed : List ℕ → List Piece → Lexing → Lexing
prefixed is ps (complete js qs) = complete (is ++ js) (ps ++ qs)
prefixed is ps (character j) = character j
prefixed is ps (too_large j) = too_large j

prefixed_none : (l : Lexing) → prefixed [] [] l ≡ l
prefixed_none (complete js qs) = refl
prefixed_none (character j) = refl
prefixed_none (too_large j) = refl

prefixed_more : (is : List ℕ) (ps : List Piece) (i : ℕ) (p : Piece) (l : Lexing) → prefixed is ps (then_token i p l) ≡ prefixed (is ++ i ∷ []) (ps ++ p ∷ []) l
prefixed_more is ps i p (complete js qs) = rw (append_assoc is (i ∷ []) js, append_assoc ps (p ∷ []) qs) refl
prefixed_more is ps i p (character j) = refl
prefixed_more is ps i p (too_large j) = refl

lex_step : (n m : ℕ) (bs : List ℕ) (at end : ℕ) (p : Piece) → n ≡ suc m → at < end → token p (end - at) ≡ first (drop at bs) →
    lex_from n bs at ≡ then_token at p (lex_from m bs (past_blanks bs end))
unfolding lex_from
lex_step n m bs at end p e h f =
    let k : at + (end - at) ≡ end = omega arith in
    rw (e, ← f, k) refl

lex_strange : (n m : ℕ) (bs : List ℕ) (at : ℕ) → n ≡ suc m → strange ≡ first (drop at bs) → lex_from n bs at ≡ character at
unfolding lex_from
lex_strange n m bs at e f = rw (e, ← f) refl

lex_large : (n m : ℕ) (bs : List ℕ) (at : ℕ) → n ≡ suc m → large ≡ first (drop at bs) → lex_from n bs at ≡ too_large at
unfolding lex_from
lex_large n m bs at e f = rw (e, ← f) refl

lex_end : (n : ℕ) (bs : List ℕ) (at : ℕ) → length bs ≤ at → lex_from n bs at ≡ complete [] []
unfolding lex_from first
lex_end zero bs at h = refl
lex_end (suc n) bs at h = rw (drop_all at bs h) refl

ascending_push : (low at high : ℕ) (is : List ℕ) → Ascending low at is → at < high → Ascending low high (is ++ at ∷ [])
ascending_push low at high [] a h = (a, h)
ascending_push low at high (i ∷ is) a h = (a.0, ascending_push (suc i) at high is a.1 h)

ascending_higher : (low mid high : ℕ) (is : List ℕ) → Ascending low mid is → mid ≤ high → Ascending low high is
ascending_higher low mid high [] a h = omega arith
ascending_higher low mid high (i ∷ is) a h = (a.0, ascending_higher (suc i) mid high is a.1 h)

-- what is read of a text, up to byte `at`
pub record SoFar (bs : List ℕ) (at : ℕ) (starts : List ℕ) (ts : List Token) (ws : List (List ℕ)) : Type 0 where
  pub within : at ≤ length bs
  pub few : length starts ≤ at
  pub same_length : length starts ≡ length ts
  pub whole : lexing bs ≡ prefixed starts (map (spell ws) ts) (lex_from (length bs - length starts) bs at)
  pub ascending : Ascending 0 at starts
  pub bounded : AllByRecursion (Bounded (length ws)) ts
  pub numbered : Numbered 0 ts (length ws)
  pub different : Different ws

pub begun : (bs : List ℕ) (at : ℕ) → at ≡ past_blanks bs 0 → at ≤ length bs → SoFar bs at [] [] []
unfolding lexing
begun bs at e l =
    let k : length bs - 0 ≡ length bs = omega arith in
    record {
      within = l;
      few = omega arith;
      same_length = refl;
      whole = rw (e, k) (sym (prefixed_none _));
      ascending = omega arith;
      bounded = tt;
      numbered = refl;
      different = tt;
    }

pub one_more : (bs : List ℕ) (at end next : ℕ) (starts : List ℕ) (ts : List Token) (ws us : List (List ℕ)) (p : Piece) (t : Token) → SoFar bs at starts ts ws → at < length bs → at < end →
    token p (end - at) ≡ first (drop at bs) → Takes ws us p (Ok t) → next ≡ past_blanks bs end → next ≤ length bs → SoFar bs next (starts ++ at ∷ []) (ts ++ t ∷ []) us
one_more bs at end next starts ts ws us p t s l h f k e w =
    let q = taken ws us ts p t s.bounded s.numbered s.different k in
    let n : length (starts ++ at ∷ []) ≡ length starts + 1 = simp length-append refl in
    let m : length (ts ++ t ∷ []) ≡ length ts + 1 = simp length-append refl in
    let g : length bs - length starts ≡ suc (length bs - length (starts ++ at ∷ [])) = omega (arith, s.few) in
    record {
      within = w;
      few = omega (arith, s.few);
      same_length = omega (arith, s.same_length);
      whole = s.whole ∙ ap (prefixed starts (map (spell ws) ts)) (lex_step _ _ bs at end p g h f) ∙ prefixed_more starts (map (spell ws) ts) at p _ ∙ rw (q.says, e) refl;
      ascending = ascending_push 0 at next starts s.ascending (omega arith);
      bounded = q.bounded;
      numbered = q.numbered;
      different = q.different;
    }

wrong_character : (bs : List ℕ) (at : ℕ) (starts : List ℕ) (ts : List Token) (ws : List (List ℕ)) → SoFar bs at starts ts ws → at < length bs → strange ≡ first (drop at bs) → lexing bs ≡ character at
wrong_character bs at starts ts ws s l f =
    let g : length bs - length starts ≡ suc (length bs - length starts - 1) = omega (arith, s.few) in
    s.whole ∙ ap (prefixed starts (map (spell ws) ts)) (lex_strange _ _ bs at g f)

wrong_number : (bs : List ℕ) (at : ℕ) (starts : List ℕ) (ts : List Token) (ws : List (List ℕ)) → SoFar bs at starts ts ws → at < length bs → large ≡ first (drop at bs) → lexing bs ≡ too_large at
wrong_number bs at starts ts ws s l f =
    let g : length bs - length starts ≡ suc (length bs - length starts - 1) = omega (arith, s.few) in
    s.whole ∙ ap (prefixed starts (map (spell ws) ts)) (lex_large _ _ bs at g f)

-- no piece stands there
pub wrong_there : (bs : List ℕ) (at : ℕ) (starts : List ℕ) (ts : List Token) (ws : List (List ℕ)) (e : LexError) → SoFar bs at starts ts ws → at < length bs →
    as_first at (Err e) ≡ first (drop at bs) → Ends at (length bs) (Err e) → Lexes bs (Err e)
wrong_there bs at starts ts ws NoMemory s l f h = tt
wrong_there bs at starts ts ws (Character i) s l f h = rw h (wrong_character bs at starts ts ws s l f)
wrong_there bs at starts ts ws (TooLarge i) s l f h = rw h (wrong_number bs at starts ts ws s l f)

pub all_read : (bs : List ℕ) (at : ℕ) (starts : List ℕ) (ts : List Token) (ws : List (List ℕ)) → SoFar bs at starts ts ws → length bs ≤ at → Tokens bs starts ts ws
all_read bs at starts ts ws s h =
    record {
      whole = s.whole ∙ ap (prefixed starts (map (spell ws) ts)) (lex_end (length bs - length starts) bs at h) ∙ rw (append-nil starts, append-nil (map (spell ws) ts)) refl;
      same_length = s.same_length;
      ascending = ascending_higher 0 at (length bs) starts s.ascending s.within;
      bounded = s.bounded;
      numbered = s.numbered;
      different = s.different;
    }

-- the same of the bytes and vectors of the code
pub begun_empty : (bs bytes : List ℕ) (at : ℕ) (starts : List ℕ) (ts : List Token) (rs : List (Bor (List ℕ))) → bytes ≡ bs → at ≡ past_blanks bytes 0 → at ≤ length bytes →
    starts ≡ [] → ts ≡ [] → rs ≡ [] → SoFar bs at starts ts (texts rs)
begun_empty bs bytes at starts ts rs b e l p q r = rw (p, q, r, ← b) (begun bytes at e l)

pub one_pushed : (bs bytes : List ℕ) (at end next : ℕ) (starts starts₁ : List ℕ) (ts ts₁ : List Token) (ws us : List (List ℕ)) (p : Piece) (t : Token) → bytes ≡ bs → SoFar bs at starts ts ws → at < length bs →
    at < end → token p (end - at) ≡ first (drop at bs) → Takes ws us p (Ok t) → next ≡ past_blanks bytes end → next ≤ length bytes → starts₁ ≡ starts ++ at ∷ [] → ts₁ ≡ ts ++ t ∷ [] → SoFar bs next starts₁ ts₁ us
one_pushed bs bytes at end next starts starts₁ ts ts₁ ws us p t b s l h f k e w m n =
    rw (m, n) (one_more bs at end next starts ts ws us p t s l h f k (subst (λ (xs : List ℕ). next ≡ past_blanks xs end) b e) (subst (λ (xs : List ℕ). next ≤ length xs) b w))
