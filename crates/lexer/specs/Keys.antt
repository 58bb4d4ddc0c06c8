-- How keywords and symbols are written. Assumes nothing: these are definitions.
use Rattle.std.specs.Prelude.{ℕ, cond, List, Some, None, codes, Option, ◌==◌}
use Rattle.std.specs.Str.{bytes_eq}
use Rattle.lexer.specs.declared.types.Key.{Key}
use Rattle.lexer.specs.declared.types.Key.TheVariants.{Names, Rows, Is, Takes, To, Check, If, Then, Else, End, While, Do, Nothing, Not, And, Or, Plus, Minus, Times, Over, Percent, Less, Equals, Open, Close, OpenIndex, CloseIndex, Comma, Semicolon}

-- the keyword that a word is, if it is one
unfoldable pub keyword : List ℕ → Option Key
keyword w =
    cond (bytes_eq w (codes "names")) (Some Names) (cond (bytes_eq w (codes "rows")) (Some Rows)
    (cond (bytes_eq w (codes "is")) (Some Is) (cond (bytes_eq w (codes "takes")) (Some Takes)
    (cond (bytes_eq w (codes "to")) (Some To) (cond (bytes_eq w (codes "check")) (Some Check)
    (cond (bytes_eq w (codes "if")) (Some If) (cond (bytes_eq w (codes "then")) (Some Then)
    (cond (bytes_eq w (codes "else")) (Some Else) (cond (bytes_eq w (codes "end")) (Some End)
    (cond (bytes_eq w (codes "while")) (Some While) (cond (bytes_eq w (codes "do")) (Some Do)
    (cond (bytes_eq w (codes "nothing")) (Some Nothing) (cond (bytes_eq w (codes "not")) (Some Not)
    (cond (bytes_eq w (codes "and")) (Some And) (cond (bytes_eq w (codes "or")) (Some Or) None)))))))))))))))

-- the symbol that a byte is, if it is one
unfoldable pub symbol : ℕ → Option Key
symbol b =
    cond (b == 43) (Some Plus) (cond (b == 45) (Some Minus) (cond (b == 42) (Some Times) (cond (b == 47) (Some Over)
    (cond (b == 37) (Some Percent) (cond (b == 60) (Some Less) (cond (b == 61) (Some Equals) (cond (b == 40) (Some Open)
    (cond (b == 41) (Some Close) (cond (b == 91) (Some OpenIndex) (cond (b == 93) (Some CloseIndex)
    (cond (b == 44) (Some Comma) (cond (b == 59) (Some Semicolon) None))))))))))))
