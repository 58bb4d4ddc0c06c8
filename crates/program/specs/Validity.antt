-- Which programs are accepted. Assumes nothing: these are definitions.
use Rattle.std.specs.Prelude.{Bool, true, false, ◌&&◌, List, [], ◌∷◌, ◌++◌, ℕ, suc, ◌+◌, eqb, ltb, leb, length}
use Rattle.program.specs.Basics.{all, larger, limit}
use Rattle.program.specs.Syntax.{Expr, num, var, bin, element, Test, less, equal, not_test, and_test, or_test, Stmt, skip, assign, store, input, check, seq, branch, loop, Program}
use Rattle.program.specs.Encoding.{encode_program}

-- numbers below 2^32, variables and arrays that exist (n variables, r arrays)
unfoldable pub valid_expr : ℕ → ℕ → Expr → Bool
valid_expr n r (num k) = ltb k limit
valid_expr n r (var x) = ltb x n
valid_expr n r (bin k a b) = ltb k 5 && (valid_expr n r a && valid_expr n r b)
valid_expr n r (element s a) = ltb s r && valid_expr n r a

-- a test of valid expressions
unfoldable pub valid_test : ℕ → ℕ → Test → Bool
valid_test n r (less a b) = valid_expr n r a && valid_expr n r b
valid_test n r (equal a b) = valid_expr n r a && valid_expr n r b
valid_test n r (not_test t) = valid_test n r t
valid_test n r (and_test t u) = valid_test n r t && valid_test n r u
valid_test n r (or_test t u) = valid_test n r t && valid_test n r u

-- how many tests a test is made of
unfoldable pub test_size : Test → ℕ
test_size (less a b) = 1
test_size (equal a b) = 1
test_size (not_test t) = suc (test_size t)
test_size (and_test t u) = suc (test_size t + test_size u)
test_size (or_test t u) = suc (test_size t + test_size u)

-- a valid test of at most 63
abbrev pub valid_condition : ℕ → ℕ → Test → Bool
valid_condition n r t = valid_test n r t && leb (test_size t) 63

-- every expression, test, variable, array and input range in it is valid
unfoldable pub valid_stmt : ℕ → ℕ → Stmt → Bool
valid_stmt n r skip = true
valid_stmt n r (assign p x e) = ltb x n && valid_expr n r e
valid_stmt n r (store p s a e) = ltb s r && (valid_expr n r a && valid_expr n r e)
valid_stmt n r (input p x a b) = ltb x n && (leb a b && ltb b limit)
valid_stmt n r (check p t) = valid_condition n r t
valid_stmt n r (seq a b) = valid_stmt n r a && valid_stmt n r b
valid_stmt n r (branch p t a b) = valid_condition n r t && (valid_stmt n r a && valid_stmt n r b)
valid_stmt n r (loop p t a) = valid_condition n r t && valid_stmt n r a

-- how deep branches and loops stand in each other
unfoldable pub nesting : Stmt → ℕ
nesting skip = 0
nesting (assign p x e) = 0
nesting (store p s a e) = 0
nesting (input p x a b) = 0
nesting (check p t) = 0
nesting (seq a b) = larger (nesting a) (nesting b)
nesting (branch p t a b) = suc (larger (nesting a) (nesting b))
nesting (loop p t a) = suc (nesting a)

-- how deep loops alone stand in each other
unfoldable pub loop_nesting : Stmt → ℕ
loop_nesting skip = 0
loop_nesting (assign p x e) = 0
loop_nesting (store p s a e) = 0
loop_nesting (input p x a b) = 0
loop_nesting (check p t) = 0
loop_nesting (seq a b) = larger (loop_nesting a) (loop_nesting b)
loop_nesting (branch p t a b) = larger (loop_nesting a) (loop_nesting b)
loop_nesting (loop p t a) = suc (loop_nesting a)

-- the statements' numbers, as they stand
unfoldable pub stmt_numbers : Stmt → List ℕ
stmt_numbers skip = []
stmt_numbers (assign p x e) = p ∷ []
stmt_numbers (store p s a e) = p ∷ []
stmt_numbers (input p x a b) = p ∷ []
stmt_numbers (check p t) = p ∷ []
stmt_numbers (seq a b) = stmt_numbers a ++ stmt_numbers b
stmt_numbers (branch p t a b) = p ∷ stmt_numbers a ++ stmt_numbers b
stmt_numbers (loop p t a) = p ∷ stmt_numbers a

-- consecutive numbers from n
unfoldable pub consecutive : ℕ → List ℕ → Bool
consecutive n [] = true
consecutive n (p ∷ ps) = eqb p n && consecutive (suc n) ps

-- all that a program must satisfy
abbrev pub valid_program : Program → Bool
valid_program p =
    (leb p.vars 64 && (leb (length p.arrays) 16 && all (λ n. leb 1 n && leb n 65536) p.arrays))
    && ((valid_stmt p.vars (length p.arrays) p.body && consecutive 1 (stmt_numbers p.body)) && (leb (nesting p.body) 32 && (leb (loop_nesting p.body) 3 && leb (length (encode_program p)) 32768)))

-- a statement without loops
unfoldable pub loop_free : Stmt → Bool
loop_free skip = true
loop_free (assign p x e) = true
loop_free (store p s a e) = true
loop_free (input p x a b) = true
loop_free (check p t) = true
loop_free (seq a b) = loop_free a && loop_free b
loop_free (branch p t a b) = loop_free a && loop_free b
loop_free (loop p t a) = false
