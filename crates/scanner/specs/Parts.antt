-- The forms of the small parts of a program: bytes, numbers and ranges. Assumes nothing: these are definitions.
use Rattle.std.specs.Prelude.{ℕ, Bool, ◌&&◌, ltb, [], ◌∷◌, ◌++◌, nat_eq, nat_le, nat_lt}
use Rattle.program.specs.Basics.{eight, limit}
use Rattle.program.specs.Syntax.{Expr}
use Rattle.program.specs.Encoding.{encode_expr}
use Rattle.program.specs.Validity.{valid_expr}
use Rattle.scanner.specs.Form.{Form, plain, followed}

-- a byte below n
abbrev pub byte_form : ℕ → Form ℕ ℕ
byte_form n = plain (λ b. ltb b n) (λ b. b ∷ [])

-- a number that passes, in eight bytes
abbrev pub eight_form : (ℕ → Bool) → Form ℕ ℕ
eight_form p = plain p eight

-- a number below 2^32
abbrev pub number_form : Form ℕ ℕ
number_form = eight_form (λ n. ltb n limit)

-- the number j
abbrev pub label_form : ℕ → Form ℕ ℕ
label_form j = eight_form (λ p. nat_eq p j)

-- what may come in: from a number to one not below it, both below 2^32
abbrev pub range_form : Form (ℕ × ℕ) ℕ
range_form = plain (λ p. nat_le p.0 p.1 && nat_lt p.1 limit) (λ p. eight p.0 ++ eight p.1)

-- a valid expression of n variables and r arrays
abbrev pub expr_form : ℕ → ℕ → Form Expr ℕ
expr_form n r = plain (valid_expr n r) encode_expr

-- two expressions, one behind the other
abbrev pub exprs_form : ℕ → ℕ → Form (Expr × Expr) ℕ
exprs_form n r = followed (expr_form n r) (λ a. expr_form n r)
