-- Programs as bytes. Assumes nothing: these are definitions.
use Rattle.std.specs.Prelude.{List, [], ◌∷◌, ◌++◌, ℕ, length}
use Rattle.program.specs.Basics.{flat_map, eight}
use Rattle.program.specs.Syntax.{Expr, num, var, bin, element, Test, less, equal, not_test, and_test, or_test, Stmt, skip, assign, store, input, check, seq, branch, loop, Program}

-- an expression as bytes
unfoldable pub encode_expr : Expr → List ℕ
encode_expr (num n) = 0 ∷ eight n
encode_expr (var x) = 1 ∷ x ∷ []
encode_expr (bin k a b) = 2 ∷ k ∷ encode_expr a ++ encode_expr b
encode_expr (element r a) = 3 ∷ r ∷ encode_expr a

-- a test as bytes
unfoldable pub encode_test : Test → List ℕ
encode_test (less a b) = 0 ∷ encode_expr a ++ encode_expr b
encode_test (equal a b) = 1 ∷ encode_expr a ++ encode_expr b
encode_test (not_test t) = 2 ∷ encode_test t
encode_test (and_test t u) = 3 ∷ encode_test t ++ encode_test u
encode_test (or_test t u) = 4 ∷ encode_test t ++ encode_test u

-- a statement as bytes
unfoldable pub encode_stmt : Stmt → List ℕ
encode_stmt skip = 0 ∷ []
encode_stmt (assign p x e) = 1 ∷ eight p ++ x ∷ encode_expr e
encode_stmt (store p r a e) = 2 ∷ eight p ++ r ∷ encode_expr a ++ encode_expr e
encode_stmt (input p x a b) = 3 ∷ eight p ++ x ∷ eight a ++ eight b
encode_stmt (check p t) = 4 ∷ eight p ++ encode_test t
encode_stmt (seq a b) = 5 ∷ encode_stmt a ++ encode_stmt b
encode_stmt (branch p t a b) = 6 ∷ eight p ++ encode_test t ++ encode_stmt a ++ encode_stmt b
encode_stmt (loop p t a) = 7 ∷ eight p ++ encode_test t ++ encode_stmt a

-- a program as bytes
abbrev pub encode_program : Program → List ℕ
encode_program p = p.vars ∷ eight (length p.arrays) ++ flat_map eight p.arrays ++ encode_stmt p.body
