-- How a parser reads on. Assumes nothing: these are definitions.
use Rattle.std.specs.Prelude.{◌≡◌, ◌≤◌, Option, slice_get, vec_len}
use Rattle.lexer.specs.declared.types.Token.{Token}
use Rattle.parser.specs.declared.parser.Parser.{Parser}

-- the tokens are the same, and no fewer of them are read
abbrev pub Onward : (old new : Parser) → Type 0
Onward old new = (new.tokens.now ≡ old.tokens.now) × (old.at ≤ new.at)

-- what is declared stays
abbrev pub SameWords : (old new : Parser) → Type 0
SameWords old new = (new.variables ≡ old.variables) × (new.arrays ≡ old.arrays)

-- what is written stays
abbrev pub SameText : (old new : Parser) → Type 0
SameText old new = (new.program ≡ old.program) × (new.places ≡ old.places)

-- it only reads: nothing is declared or written
abbrev pub Skips : (old new : Parser) → Type 0
Skips old new = Onward old new × SameWords old new × SameText old new

-- words are declared, and nothing is written
abbrev pub Declares : (old new : Parser) → Type 0
Declares old new = Onward old new × SameText old new

-- the encoding is no shorter, and nothing is declared
abbrev pub ReadsOn : (old new : Parser) → Type 0
ReadsOn old new = Onward old new × (vec_len old.program ≤ vec_len new.program) × SameWords old new

-- so in an expression, where no statement begins
abbrev pub ReadsExpr : (old new : Parser) → Type 0
ReadsExpr old new = ReadsOn old new × (new.places ≡ old.places)

-- the token that is next, if one is left
abbrev pub next : Parser → Option Token
next p = slice_get p.tokens.now p.at
