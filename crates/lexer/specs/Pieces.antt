-- The pieces that the code finds, as the text has them. Assumes nothing: these are definitions.
use Rattle.std.specs.Prelude.{◌≡◌, ℕ, ◌-◌, ◌^◌, ◌<◌, ◌≤◌, Result, Ok, Err}
use Rattle.lexer.specs.Lexing as lexing
use Rattle.lexer.specs.Lexing.{First, none_left, strange, large, token}
use Rattle.lexer.specs.declared.pieces.Piece.{Piece}
use Rattle.lexer.specs.declared.pieces.Piece.TheVariants.{Word, Number, Key}
use Rattle.lexer.specs.declared.error.LexError.{LexError}
use Rattle.lexer.specs.declared.error.LexError.TheVariants.{NoMemory, Character, TooLarge}

abbrev pub as_piece : Piece → lexing.Piece
as_piece (Word w) = lexing.word w.now
as_piece (Number n) = lexing.number n
as_piece (Key k) = lexing.key k

-- what stands at a byte: a piece and its end, or why there is none
abbrev pub as_first : ℕ → Result (Piece × ℕ) LexError → First
as_first at (Ok (p, end)) = token (as_piece p) (end - at)
as_first at (Err (Character i)) = strange
as_first at (Err (TooLarge i)) = large
as_first at (Err NoMemory) = none_left

-- a number is below 2^32
abbrev pub Small : Piece → Type 0
Small (Word w) = Unit {0}
Small (Number n) = n < 2 ^ 32
Small (Key k) = Unit {0}

-- a piece has a byte at least, and ends within the text; an error is of that byte, and not for want of memory
abbrev pub Ends : ℕ → ℕ → Result (Piece × ℕ) LexError → Type 0
Ends at size (Ok (p, end)) = (at < end) × (end ≤ size) × Small p
Ends at size (Err (Character i)) = i ≡ at
Ends at size (Err (TooLarge i)) = i ≡ at
Ends at size (Err NoMemory) = ⊥
