-- A text as tokens, by its bytes. Assumes nothing: these are definitions.
use Rattle.std.specs.List.{prefix_len}
use Rattle.std.specs.Prelude.{ℕ, zero, suc, ◌+◌, ◌-◌, ◌*◌, ◌^◌, Bool, true, false, cond, not, ◌&&◌, ◌||◌, List, [], ◌∷◌, length, take, drop, Some, None, Option, ◌==◌, nat_le, nat_lt}
use Rattle.lexer.specs.declared.types.Key.{Key}
use Rattle.lexer.specs.Keys.{keyword, symbol}

-- space, tab, CR, LF
abbrev pub white : ℕ → Bool
white b = b == 32 || (b == 9 || (b == 13 || b == 10))

abbrev pub digit : ℕ → Bool
digit b = nat_le 48 b && nat_le b 57

-- a letter or _
abbrev pub letter : ℕ → Bool
letter b = (nat_le 65 b && nat_le b 90) || ((nat_le 97 b && nat_le b 122) || b == 95)

-- what a word goes on with
abbrev pub word_byte : ℕ → Bool
word_byte b = letter b || digit b

-- how many at the front pass a test
abbrev pub run : (ℕ → Bool) → List ℕ → ℕ
run p bs = prefix_len p bs

-- how many at the front are white space or in a comment; whether a comment has begun
abbrev pub blanks : Bool → List ℕ → ℕ
blanks c [] = 0
blanks true (b ∷ bs) = suc (blanks (not (b == 10)) bs)
blanks false (b ∷ bs) = cond (white b) (suc (blanks false bs)) (cond (b == 35) (suc (blanks true bs)) 0)

-- the value of decimal digits behind those of n
abbrev pub value : ℕ → List ℕ → ℕ
value n [] = n
value n (d ∷ ds) = value (n * 10 + (d - 48)) ds

-- past the white space and the comments that begin at i
abbrev pub past_blanks : List ℕ → ℕ → ℕ
past_blanks bs i = i + blanks false (drop i bs)

-- what a token says, a word by its bytes
pub data Piece : Type 0 where
  word : List ℕ → Piece
  number : ℕ → Piece
  key : Key → Piece

-- what a text begins with: nothing, a byte that begins no token, a number of 2^32 or more, or a token of n bytes
pub data First : Type 0 where
  none_left : First
  strange : First
  large : First
  token : Piece → ℕ → First

abbrev pub word_or_key : List ℕ → Option Key → Piece
word_or_key w None = word w
word_or_key w (Some k) = key k

abbrev pub number_or_large : (n size : ℕ) → First
number_or_large n size = cond (nat_lt n (2 ^ 32)) (token (number n) size) large

abbrev pub symbol_or_strange : Option Key → First
symbol_or_strange None = strange
symbol_or_strange (Some k) = token (key k) 1

abbrev pub first_word : (size : ℕ) → List ℕ → First
first_word size bs = token (word_or_key (take size bs) (keyword (take size bs))) size

abbrev pub first_number : (size : ℕ) → List ℕ → First
first_number size bs = number_or_large (value 0 (take size bs)) size

-- the longest word or number, or a symbol
unfoldable pub first : List ℕ → First
first [] = none_left
first (b ∷ bs) =
    cond (letter b) (first_word (run word_byte (b ∷ bs)) (b ∷ bs))
    (cond (digit b) (first_number (run digit (b ∷ bs)) (b ∷ bs)) (symbol_or_strange (symbol b)))

-- a whole text: where its tokens begin and what they say; or the byte at which it is wrong
pub data Lexing : Type 0 where
  complete : List ℕ → List Piece → Lexing
  character : ℕ → Lexing
  too_large : ℕ → Lexing

abbrev pub then_token : ℕ → Piece → Lexing → Lexing
then_token i p (complete is ps) = complete (i ∷ is) (p ∷ ps)
then_token i p (character j) = character j
then_token i p (too_large j) = too_large j

-- with what stands at i, and how it goes on behind that
abbrev pub lex_first : ℕ → First → (ℕ → Lexing) → Lexing
lex_first i none_left more = complete [] []
lex_first i strange more = character i
lex_first i large more = too_large i
lex_first i (token p n) more = then_token i p (more n)

-- from i on, where no white space stands; with at most so many tokens
unfoldable pub lex_from : ℕ → List ℕ → ℕ → Lexing
lex_from zero bs i = complete [] []
lex_from (suc f) bs i = lex_first i (first (drop i bs)) (λ n. lex_from f bs (past_blanks bs (i + n)))

-- a text as tokens; it has no more tokens than bytes
unfoldable pub lexing : List ℕ → Lexing
lexing bs = lex_from (length bs) bs (past_blanks bs 0)
