use Rattle.std.proofs.Common.{◌≡◌, ℕ, ◌<◌, ◌≢◌, List, [], length, get_or, Some, None, Option, MatchOption, arith, rules, sym, ◌∙◌, Bor}
use Rattle.std.specs.List.{AllWithin, HoldsAt}
use Rattle.std.proofs.lemmas.Iterator.{YieldsList-from_slice, IsFirst-from_position}
use borrow.Author.Tests.{tests}
use Rattle.std.proofs.lemmas.List.{get_or-map, length-map}
use Rattle.lexer.specs.Tokens.{texts, Finds}
use Rattle.lexer.proofs.Numbering.{lacks_places}
use Rattle.lexer.proofs.words.find_word.Goals as goal

no_word : Bor (List ℕ)
no_word = record { ref_ptr = (0, 0); now = [] }

-- the text of a word
text_at : (rs : List (Bor (List ℕ))) (i : ℕ) (d : Bor (List ℕ)) → i < length rs → get_or (texts rs) i [] ≡ (get_or rs i d).now
text_at rs i d h = get_or-map (λ (r : Bor (List ℕ)). r.now) rs i d [] h

found : (rs : List (Bor (List ℕ))) (w : List ℕ) (o : Option ℕ) →
    MatchOption o (AllWithin (λ r. r.now ≢ w) rs 0 (length rs)) (λ i. (i < length rs) × HoldsAt (λ r. r.now ≡ w) rs i × AllWithin (λ r. r.now ≢ w) rs 0 i) → Finds (texts rs) w o
found rs w None h = lacks_places (texts rs) w (λ k l e.
    let n : k < length rs = rw (← length-map rs (λ (r : Bor (List ℕ)). r.now)) l in
    h k no_word (omega arith) n (sym (text_at rs k no_word n) ∙ e))
found rs w (Some i) h = (rw (length-map rs (λ (r : Bor (List ℕ)). r.now)) h.0, text_at rs i no_word h.0 ∙ h.1 no_word)

pub returns : goal.returns
returns c = found c.args.words.now c.args.word.now c.position.result
    (IsFirst-from_position _ _ c.position.result (λ r. r.now ≡ c.args.word.now) (λ r. r.now ≢ c.args.word.now) c.position.ensures.ran (YieldsList-from_slice c.args.words.now c.iter.ensures.rest)
    (λ x q k. search (rules, tests)) (λ x q k. search (rules, tests)))
