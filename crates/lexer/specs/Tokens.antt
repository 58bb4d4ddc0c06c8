-- When tokens, their starts and words are those of a text. Assumes nothing: these are definitions.
use Rattle.std.specs.Prelude.{◌≡◌, ℕ, suc, ◌^◌, ◌<◌, ◌≤◌, ◌⊎◌, List, [], ◌∷◌, ◌++◌, map, length, Ok, Err, vec_items, Option, Result, ◌≢◌, slice_index_or}
use Rattle.std.specs.Borrow.{Bor}
use Rattle.std.specs.declared.option.Option.TheVariants as option
use Rattle.std.specs.declared.alloc.AllocError.{AllocError}
use Rattle.std.specs.List.{AllByRecursion}
use Rattle.lexer.specs.declared.types.Token.{Token}
use Rattle.lexer.specs.declared.types.Token.TheVariants.{Word, Number, Key}
use Rattle.lexer.specs.declared.whole.Lexed.{Lexed}
use Rattle.lexer.specs.declared.error.LexError.{LexError}
use Rattle.lexer.specs.declared.error.LexError.TheVariants.{NoMemory, Character, TooLarge}
use Rattle.lexer.specs.Lexing.{Piece, word, number, key, complete, character, too_large, lexing}

-- what is behind references
abbrev pub texts : List (Bor (List ℕ)) → List (List ℕ)
texts rs = map (λ r. r.now) rs

-- what a token says, where these are the words
abbrev pub spell : List (List ℕ) → Token → Piece
spell ws (Word i) = word (slice_index_or ws i [])
spell ws (Number n) = number n
spell ws (Key k) = key k

-- w is none of the words
abbrev pub Lacks : List (List ℕ) → List ℕ → Type 0
Lacks [] w = Unit {0}
Lacks (v ∷ vs) w = (v ≢ w) × Lacks vs w

-- no word stands twice
abbrev pub Different : List (List ℕ) → Type 0
Different [] = Unit {0}
Different (v ∷ vs) = Lacks vs v × Different vs

-- words are numbered as they first appear: of n words before these tokens, there are m behind them
abbrev pub Numbered : ℕ → List Token → ℕ → Type 0
Numbered n [] m = n ≡ m
Numbered n (Word i ∷ ts) m = ((i < n) × Numbered n ts m) ⊎ ((i ≡ n) × Numbered (suc n) ts m)
Numbered n (Number k ∷ ts) m = Numbered n ts m
Numbered n (Key k ∷ ts) m = Numbered n ts m

-- a token of a text with n words
abbrev pub Bounded : ℕ → Token → Type 0
Bounded n (Word i) = i < n
Bounded n (Number k) = k < 2 ^ 32
Bounded n (Key k) = Unit {0}

-- numbers that ascend, from low on and below high
abbrev pub Ascending : (low high : ℕ) → List ℕ → Type 0
Ascending low high [] = low ≤ high
Ascending low high (i ∷ is) = (low ≤ i) × Ascending (suc i) high is

-- the tokens of a text
pub record Tokens (bs starts : List ℕ) (tokens : List Token) (words : List (List ℕ)) : Type 0 where
  pub whole : lexing bs ≡ complete starts (map (spell words) tokens)
  pub same_length : length starts ≡ length tokens
  pub ascending : Ascending 0 (length bs) starts
  pub bounded : AllByRecursion (Bounded (length words)) tokens
  pub numbered : Numbered 0 tokens (length words)
  pub different : Different words

-- the tokens of a text, or where it is wrong
abbrev pub Lexes : List ℕ → Result Lexed LexError → Type 0
Lexes bs (Ok l) = Tokens bs (vec_items l.starts) (vec_items l.tokens) (texts (vec_items l.words))
Lexes bs (Err NoMemory) = Unit {0}
Lexes bs (Err (Character i)) = lexing bs ≡ character i
Lexes bs (Err (TooLarge i)) = lexing bs ≡ too_large i

-- a word found at i among words, or none of them
abbrev pub Finds : List (List ℕ) → List ℕ → Option ℕ → Type 0
Finds ws w option.None = Lacks ws w
Finds ws w (option.Some i) = (i < length ws) × (slice_index_or ws i [] ≡ w)

-- a word's number among the words before; or it is new, and the last of the words after; without memory the words stay
abbrev pub Numbers : (before after : List (List ℕ)) → List ℕ → Result ℕ AllocError → Type 0
Numbers ws us w (Err e) = us ≡ ws
Numbers ws us w (Ok i) = ((us ≡ ws) × (i < length ws) × (slice_index_or ws i [] ≡ w)) ⊎ ((us ≡ ws ++ w ∷ []) × (i ≡ length ws) × Lacks ws w)

-- a piece as a token: it says what the piece says, and its word was known or is new; without memory the words stay
abbrev pub Takes : (before after : List (List ℕ)) → Piece → Result Token AllocError → Type 0
Takes ws us p (Err e) = us ≡ ws
Takes ws us p (Ok t) =
    ((us ≡ ws) × (spell ws t ≡ p) × Bounded (length ws) t) ⊎ ((w : List ℕ) × (us ≡ ws ++ w ∷ []) × (t ≡ Word (length ws)) × (p ≡ word w) × Lacks ws w)
