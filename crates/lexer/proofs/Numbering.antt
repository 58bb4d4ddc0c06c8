-- Words and their numbers: one word, one token more. Rests on the definitions alone.
use Rattle.std.proofs.Common.{◌≡◌, ℕ, zero, suc, ◌<◌, ◌≤◌, List, [], ◌∷◌, ◌++◌, map, length, get_or, Ok, sym, refl, ap, ◌∙◌, subst, inl, inr, arith, length-append}
use Rattle.std.specs.List.{AllByRecursion}
use Rattle.std.proofs.slice.Lists.{all_by_recursion_push}
use Rattle.std.proofs.lemmas.List.{map_push}
use Rattle.lexer.specs.declared.types.Token.{Token}
use Rattle.lexer.specs.declared.types.Token.TheVariants.{Word, Number, Key}
use Rattle.lexer.specs.Lexing.{Piece, word}
use Rattle.lexer.specs.Tokens.{spell, Lacks, Different, Numbered, Bounded, Takes}

pub lacks_places : (ws : List (List ℕ)) (w : List ℕ) → ((k : ℕ) → k < length ws → get_or ws k [] ≡ w → ⊥) → Lacks ws w
lacks_places [] w h = tt
lacks_places (v ∷ vs) w h = (h 0 (omega arith), lacks_places vs w (λ k l. h (suc k) (omega arith)))

get_d_front : (ws : List (List ℕ)) (w : List ℕ) (i : ℕ) → i < length ws → get_or (ws ++ w ∷ []) i [] ≡ get_or ws i []
get_d_front [] w i h = absurd (omega arith)
get_d_front (v ∷ vs) w zero h = refl
get_d_front (v ∷ vs) w (suc i) h = get_d_front vs w i (omega arith)

getD_last : (ws : List (List ℕ)) (w : List ℕ) → get_or (ws ++ w ∷ []) (length ws) [] ≡ w
getD_last [] w = refl
getD_last (v ∷ vs) w = getD_last vs w

spell_more : (ws : List (List ℕ)) (w : List ℕ) (t : Token) → Bounded (length ws) t → spell (ws ++ w ∷ []) t ≡ spell ws t
spell_more ws w (Word i) h = ap word (get_d_front ws w i h)
spell_more ws w (Number n) h = refl
spell_more ws w (Key k) h = refl

spells_more : (ws : List (List ℕ)) (w : List ℕ) (ts : List Token) → AllByRecursion (Bounded (length ws)) ts → map (spell (ws ++ w ∷ [])) ts ≡ map (spell ws) ts
spells_more ws w [] h = refl
spells_more ws w (t ∷ ts) h = rw (spell_more ws w t h.0, spells_more ws w ts h.1) refl

bounded_more : (n m : ℕ) → n ≤ m → (t : Token) → Bounded n t → Bounded m t
bounded_more n m l (Word i) h = omega arith
bounded_more n m l (Number k) h = h
bounded_more n m l (Key k) h = tt

all_bounded_more : (n m : ℕ) → n ≤ m → (ts : List Token) → AllByRecursion (Bounded n) ts → AllByRecursion (Bounded m) ts
all_bounded_more n m l [] h = tt
all_bounded_more n m l (t ∷ ts) h = (bounded_more n m l t h.0, all_bounded_more n m l ts h.1)

numbered_known : (n m : ℕ) (ts : List Token) (t : Token) → Numbered n ts m → Bounded m t → Numbered n (ts ++ t ∷ []) m
numbered_known n m [] (Word i) h b = inl (omega arith, h)
numbered_known n m [] (Number k) h b = h
numbered_known n m [] (Key k) h b = h
numbered_known n m (Word i ∷ ts) t (inl (l, h)) b = inl (l, numbered_known n m ts t h b)
numbered_known n m (Word i ∷ ts) t (inr (l, h)) b = inr (l, numbered_known (suc n) m ts t h b)
numbered_known n m (Number k ∷ ts) t h b = numbered_known n m ts t h b
numbered_known n m (Key k ∷ ts) t h b = numbered_known n m ts t h b

numbered_new : (n m : ℕ) (ts : List Token) → Numbered n ts m → Numbered n (ts ++ Word m ∷ []) (suc m)
numbered_new n m [] h = inr (sym h, ap suc h)
numbered_new n m (Word i ∷ ts) (inl (l, h)) = inl (l, numbered_new n m ts h)
numbered_new n m (Word i ∷ ts) (inr (l, h)) = inr (l, numbered_new (suc n) m ts h)
numbered_new n m (Number k ∷ ts) h = numbered_new n m ts h
numbered_new n m (Key k ∷ ts) h = numbered_new n m ts h

lacks_push : (vs : List (List ℕ)) (v w : List ℕ) → Lacks vs v → (v ≡ w → ⊥) → Lacks (vs ++ w ∷ []) v
lacks_push [] v w h d = (λ e. d (sym e), tt)
lacks_push (u ∷ us) v w h d = (h.0, lacks_push us v w h.1 d)

different_push : (ws : List (List ℕ)) (w : List ℕ) → Different ws → Lacks ws w → Different (ws ++ w ∷ [])
different_push [] w h l = (tt, tt)
different_push (v ∷ vs) w h l = (lacks_push vs v w h.0 l.0, different_push vs w h.1 l.1)

-- one token more, and perhaps one word
pub record Taken (ws us : List (List ℕ)) (ts : List Token) (p : Piece) (t : Token) : Type 0 where
  pub says : map (spell us) (ts ++ t ∷ []) ≡ map (spell ws) ts ++ p ∷ []
  pub bounded : AllByRecursion (Bounded (length us)) (ts ++ t ∷ [])
  pub numbered : Numbered 0 (ts ++ t ∷ []) (length us)
  pub different : Different us

taken_known : (ws : List (List ℕ)) (ts : List Token) (p : Piece) (t : Token) → AllByRecursion (Bounded (length ws)) ts → Numbered 0 ts (length ws) → Different ws →
    spell ws t ≡ p → Bounded (length ws) t → Taken ws ws ts p t
taken_known ws ts p t b n d e h =
    record {
      says = map_push (spell ws) ts t ∙ ap (λ (q : Piece). map (spell ws) ts ++ q ∷ []) e;
      bounded = all_by_recursion_push (Bounded (length ws)) ts t b h;
      numbered = numbered_known 0 (length ws) ts t n h;
      different = d;
    }

taken_new : (ws : List (List ℕ)) (w : List ℕ) (ts : List Token) → AllByRecursion (Bounded (length ws)) ts → Numbered 0 ts (length ws) → Different ws →
    Lacks ws w → Taken ws (ws ++ w ∷ []) ts (word w) (Word (length ws))
taken_new ws w ts b n d l =
    let k : length (ws ++ w ∷ []) ≡ suc (length ws) = simp length-append (omega arith) in
    record {
      says = map_push (spell (ws ++ w ∷ [])) ts (Word (length ws)) ∙ rw (spells_more ws w ts b, getD_last ws w) refl;
      bounded = all_by_recursion_push (Bounded (length (ws ++ w ∷ []))) ts (Word (length ws)) (all_bounded_more (length ws) (length (ws ++ w ∷ [])) (omega arith) ts b) (omega arith);
      numbered = subst (Numbered 0 (ts ++ Word (length ws) ∷ [])) (sym k) (numbered_new 0 (length ws) ts n);
      different = different_push ws w d l;
    }

pub taken : (ws us : List (List ℕ)) (ts : List Token) (p : Piece) (t : Token) → AllByRecursion (Bounded (length ws)) ts → Numbered 0 ts (length ws) → Different ws →
    Takes ws us p (Ok t) → Taken ws us ts p t
taken ws us ts p t b n d (inl (e, f, h)) = subst (λ (vs : List (List ℕ)). Taken ws vs ts p t) (sym e) (taken_known ws ts p t b n d f h)
taken ws us ts p t b n d (inr (w, e, f, g, l)) =
    rw (e, f, g) (taken_new ws w ts b n d l)
