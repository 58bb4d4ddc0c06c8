-- Programs as text of the language of texts, byte by byte. Assumes nothing: these are definitions.
use Rattle.std.specs.Prelude.{ℕ, zero, suc, ◌+◌, Bool, true, false, cond, List, [], ◌++◌, length, codes, decimal, ◌==◌, nat_lt, slice_index}
use Rattle.program.specs.Syntax.{Expr, num, var, bin, element, Test, less, equal, not_test, and_test, or_test, Stmt, skip, assign, store, input, check, seq, branch, loop, Program}

-- the word of a variable
abbrev pub variable_word : ℕ → List ℕ
variable_word x = codes "x" ++ decimal x

-- the word of an array
abbrev pub array_word : ℕ → List ℕ
array_word r = codes "row" ++ decimal r

-- an operator's sign, with spaces around it
abbrev pub sign_text : ℕ → List ℕ
sign_text k = cond (k == 0) (codes " + ") (cond (k == 1) (codes " - ") (cond (k == 2) (codes " * ") (cond (k == 3) (codes " / ") (codes " % "))))

-- a bracket, where one is wanted
abbrev pub opening : Bool → List ℕ
opening wanted = cond wanted (codes "(") []

abbrev pub closing : Bool → List ℕ
closing wanted = cond wanted (codes ")") []

-- an expression; as an operand in brackets, unless it is a number, a variable or an element
unfoldable pub text_expr : Bool → Expr → List ℕ
text_expr operand (num n) = decimal n
text_expr operand (var x) = variable_word x
text_expr operand (bin k a b) = opening operand ++ text_expr true a ++ sign_text k ++ text_expr true b ++ closing operand
text_expr operand (element r a) = array_word r ++ codes "[" ++ text_expr false a ++ codes "]"

-- a test; the tests that it is made of stand in brackets
unfoldable pub text_test : Test → List ℕ
text_test (less a b) = text_expr false a ++ codes " < " ++ text_expr false b
text_test (equal a b) = text_expr false a ++ codes " = " ++ text_expr false b
text_test (not_test t) = codes "not (" ++ text_test t ++ codes ")"
text_test (and_test t u) = codes "(" ++ text_test t ++ codes ") and (" ++ text_test u ++ codes ")"
text_test (or_test t u) = codes "(" ++ text_test t ++ codes ") or (" ++ text_test u ++ codes ")"

-- two spaces for each level
unfoldable pub indent : ℕ → List ℕ
indent zero = []
indent (suc d) = indent d ++ codes "  "

-- one level more, up to sixteen
abbrev pub deeper : ℕ → ℕ
deeper d = cond (nat_lt d 16) (d + 1) d

-- lines of their own, and the indentation of what comes behind them
abbrev pub block : ℕ → List ℕ → List ℕ
block d lines = codes "\n" ++ lines ++ codes "\n" ++ indent d

abbrev pub is_seq : Stmt → Bool
is_seq skip = false
is_seq (assign p x e) = false
is_seq (store p r a e) = false
is_seq (input p x a b) = false
is_seq (check p t) = false
is_seq (seq a b) = true
is_seq (branch p t a b) = false
is_seq (loop p t a) = false

abbrev pub is_skip : Stmt → Bool
is_skip skip = true
is_skip (assign p x e) = false
is_skip (store p r a e) = false
is_skip (input p x a b) = false
is_skip (check p t) = false
is_skip (seq a b) = false
is_skip (branch p t a b) = false
is_skip (loop p t a) = false

-- the first of two statements: in brackets if it is a sequence itself
abbrev pub first_of : Bool → ℕ → List ℕ → List ℕ → List ℕ
first_of sequence d lines plain = cond sequence (indent d ++ codes "(" ++ block d lines ++ codes ")") plain

-- the second part of a branch, if it does something
abbrev pub else_of : Bool → ℕ → List ℕ → List ℕ
else_of nothing d lines = cond nothing [] (codes "else" ++ block d lines)

-- a statement, indented by d levels
unfoldable pub text_stmt : ℕ → Stmt → List ℕ
text_stmt d skip = indent d ++ codes "nothing"
text_stmt d (assign p x e) = indent d ++ variable_word x ++ codes " is " ++ text_expr false e
text_stmt d (store p r a e) = indent d ++ array_word r ++ codes "[" ++ text_expr false a ++ codes "] is " ++ text_expr false e
text_stmt d (input p x a b) = indent d ++ variable_word x ++ codes " takes " ++ decimal a ++ codes " to " ++ decimal b
text_stmt d (check p t) = indent d ++ codes "check " ++ text_test t
text_stmt d (seq a b) = first_of (is_seq a) d (text_stmt (deeper d) a) (text_stmt d a) ++ codes ";\n" ++ text_stmt d b
text_stmt d (branch p t a b) =
    indent d ++ codes "if " ++ text_test t ++ codes " then" ++ block d (text_stmt (deeper d) a) ++ else_of (is_skip b) d (text_stmt (deeper d) b) ++ codes "end"
text_stmt d (loop p t a) = indent d ++ codes "while " ++ text_test t ++ codes " do" ++ block d (text_stmt (deeper d) a) ++ codes "end"

-- what stands before the declared word with this index
abbrev pub separator : List ℕ → ℕ → List ℕ
separator first i = cond (i == 0) first (codes ", ")

-- the end of a line, where one was begun
abbrev pub line_end : ℕ → List ℕ
line_end n = cond (n == 0) [] (codes "\n")

-- the declarations of the first n variables
unfoldable pub declared_variables : ℕ → List ℕ
declared_variables zero = []
declared_variables (suc i) = declared_variables i ++ separator (codes "names ") i ++ variable_word i

-- the declarations of the first n arrays of these lengths
unfoldable pub declared_arrays : List ℕ → ℕ → List ℕ
declared_arrays lengths zero = []
declared_arrays lengths (suc i) = declared_arrays lengths i ++ separator (codes "rows ") i ++ array_word i ++ codes "[" ++ decimal (slice_index lengths i) ++ codes "]"

-- the line of the variables, if there are any
abbrev pub variables_line : ℕ → List ℕ
variables_line n = declared_variables n ++ line_end n

-- the line of the arrays, if there are any
abbrev pub arrays_line : List ℕ → List ℕ
arrays_line lengths = declared_arrays lengths (length lengths) ++ line_end (length lengths)

-- a program: its variables, its arrays and its statements
abbrev pub text_program : Program → List ℕ
text_program p = variables_line p.vars ++ arrays_line p.arrays ++ text_stmt 0 p.body ++ codes "\n"
