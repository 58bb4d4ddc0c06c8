-- An expression, test or statement that stands at a position, by its first byte: which one it is, and where its parts stand.
-- Each record says what it is (`is`), what its parts are and where they stand, and how long it is (`long`). Assumes nothing: these are definitions.
use Rattle.std.specs.Prelude.{◌≡◌, ℕ, zero, suc, ◌+◌, List, length, slice_index_or}
use Rattle.program.specs.Basics.{eight}
use Rattle.program.specs.Syntax.{Expr, num, var, bin, element, Test, less, equal, not_test, and_test, or_test, Stmt, skip, assign, store, input, check, seq, branch, loop}
use Rattle.program.specs.Encoding.{encode_expr, encode_test, encode_stmt}
use Rattle.encoding.specs.Standing.{Stands}

-- expressions

pub record NumberAt (text : List ℕ) (pos : ℕ) (x : Expr) : Type 0 where
  pub n : ℕ
  pub is : x ≡ num n
  pub word : Stands text (pos + 1) (eight n)
  pub long : length (encode_expr x) ≡ 9

pub record VariableAt (text : List ℕ) (pos : ℕ) (x : Expr) : Type 0 where
  pub v : ℕ
  pub is : x ≡ var v
  pub v_is : slice_index_or text (pos + 1) 0 ≡ v
  pub long : length (encode_expr x) ≡ 2

pub record BinaryAt (text : List ℕ) (pos : ℕ) (x : Expr) : Type 0 where
  pub op : ℕ
  pub a : Expr
  pub b : Expr
  pub is : x ≡ bin op a b
  pub op_is : slice_index_or text (pos + 1) 0 ≡ op
  pub left : Stands text (pos + 2) (encode_expr a)
  pub right : Stands text (pos + 2 + length (encode_expr a)) (encode_expr b)
  pub long : length (encode_expr x) ≡ 2 + length (encode_expr a) + length (encode_expr b)

pub record ElementAt (text : List ℕ) (pos : ℕ) (x : Expr) : Type 0 where
  pub r : ℕ
  pub a : Expr
  pub is : x ≡ element r a
  pub r_is : slice_index_or text (pos + 1) 0 ≡ r
  pub index : Stands text (pos + 2) (encode_expr a)
  pub long : length (encode_expr x) ≡ 2 + length (encode_expr a)

-- an expression that stands at pos, by its first byte
abbrev pub ExprAt : ℕ → List ℕ → ℕ → Expr → Type 0
ExprAt zero text pos x = NumberAt text pos x
ExprAt (suc zero) text pos x = VariableAt text pos x
ExprAt (suc (suc zero)) text pos x = BinaryAt text pos x
ExprAt (suc (suc (suc zero))) text pos x = ElementAt text pos x
ExprAt (suc (suc (suc (suc k)))) text pos x = ⊥

-- tests

pub record LessAt (text : List ℕ) (pos : ℕ) (x : Test) : Type 0 where
  pub a : Expr
  pub b : Expr
  pub is : x ≡ less a b
  pub left : Stands text (pos + 1) (encode_expr a)
  pub right : Stands text (pos + 1 + length (encode_expr a)) (encode_expr b)
  pub long : length (encode_test x) ≡ 1 + length (encode_expr a) + length (encode_expr b)

pub record EqualAt (text : List ℕ) (pos : ℕ) (x : Test) : Type 0 where
  pub a : Expr
  pub b : Expr
  pub is : x ≡ equal a b
  pub left : Stands text (pos + 1) (encode_expr a)
  pub right : Stands text (pos + 1 + length (encode_expr a)) (encode_expr b)
  pub long : length (encode_test x) ≡ 1 + length (encode_expr a) + length (encode_expr b)

pub record NotAt (text : List ℕ) (pos : ℕ) (x : Test) : Type 0 where
  pub t : Test
  pub is : x ≡ not_test t
  pub inner : Stands text (pos + 1) (encode_test t)
  pub long : length (encode_test x) ≡ 1 + length (encode_test t)

pub record AndAt (text : List ℕ) (pos : ℕ) (x : Test) : Type 0 where
  pub t : Test
  pub u : Test
  pub is : x ≡ and_test t u
  pub first : Stands text (pos + 1) (encode_test t)
  pub second : Stands text (pos + 1 + length (encode_test t)) (encode_test u)
  pub long : length (encode_test x) ≡ 1 + length (encode_test t) + length (encode_test u)

pub record OrAt (text : List ℕ) (pos : ℕ) (x : Test) : Type 0 where
  pub t : Test
  pub u : Test
  pub is : x ≡ or_test t u
  pub first : Stands text (pos + 1) (encode_test t)
  pub second : Stands text (pos + 1 + length (encode_test t)) (encode_test u)
  pub long : length (encode_test x) ≡ 1 + length (encode_test t) + length (encode_test u)

-- a test that stands at pos, by its first byte
abbrev pub TestAt : ℕ → List ℕ → ℕ → Test → Type 0
TestAt zero text pos x = LessAt text pos x
TestAt (suc zero) text pos x = EqualAt text pos x
TestAt (suc (suc zero)) text pos x = NotAt text pos x
TestAt (suc (suc (suc zero))) text pos x = AndAt text pos x
TestAt (suc (suc (suc (suc zero)))) text pos x = OrAt text pos x
TestAt (suc (suc (suc (suc (suc k))))) text pos x = ⊥

-- statements; behind the first byte of a numbered one stands its number p

pub record SkipAt (text : List ℕ) (pos : ℕ) (x : Stmt) : Type 0 where
  pub is : x ≡ skip
  pub long : length (encode_stmt x) ≡ 1

pub record AssignAt (text : List ℕ) (pos : ℕ) (x : Stmt) : Type 0 where
  pub p : ℕ
  pub v : ℕ
  pub e : Expr
  pub is : x ≡ assign p v e
  pub number : Stands text (pos + 1) (eight p)
  pub v_is : slice_index_or text (pos + 9) 0 ≡ v
  pub value : Stands text (pos + 10) (encode_expr e)
  pub long : length (encode_stmt x) ≡ 10 + length (encode_expr e)

pub record StoreAt (text : List ℕ) (pos : ℕ) (x : Stmt) : Type 0 where
  pub p : ℕ
  pub r : ℕ
  pub a : Expr
  pub e : Expr
  pub is : x ≡ store p r a e
  pub number : Stands text (pos + 1) (eight p)
  pub r_is : slice_index_or text (pos + 9) 0 ≡ r
  pub index : Stands text (pos + 10) (encode_expr a)
  pub value : Stands text (pos + 10 + length (encode_expr a)) (encode_expr e)
  pub long : length (encode_stmt x) ≡ 10 + length (encode_expr a) + length (encode_expr e)

pub record InputAt (text : List ℕ) (pos : ℕ) (x : Stmt) : Type 0 where
  pub p : ℕ
  pub v : ℕ
  pub a : ℕ
  pub b : ℕ
  pub is : x ≡ input p v a b
  pub number : Stands text (pos + 1) (eight p)
  pub v_is : slice_index_or text (pos + 9) 0 ≡ v
  pub low : Stands text (pos + 10) (eight a)
  pub high : Stands text (pos + 18) (eight b)
  pub long : length (encode_stmt x) ≡ 26

pub record CheckAt (text : List ℕ) (pos : ℕ) (x : Stmt) : Type 0 where
  pub p : ℕ
  pub t : Test
  pub is : x ≡ check p t
  pub number : Stands text (pos + 1) (eight p)
  pub condition : Stands text (pos + 9) (encode_test t)
  pub long : length (encode_stmt x) ≡ 9 + length (encode_test t)

pub record SeqAt (text : List ℕ) (pos : ℕ) (x : Stmt) : Type 0 where
  pub a : Stmt
  pub b : Stmt
  pub is : x ≡ seq a b
  pub first : Stands text (pos + 1) (encode_stmt a)
  pub second : Stands text (pos + 1 + length (encode_stmt a)) (encode_stmt b)
  pub long : length (encode_stmt x) ≡ 1 + length (encode_stmt a) + length (encode_stmt b)

pub record BranchAt (text : List ℕ) (pos : ℕ) (x : Stmt) : Type 0 where
  pub p : ℕ
  pub t : Test
  pub a : Stmt
  pub b : Stmt
  pub is : x ≡ branch p t a b
  pub number : Stands text (pos + 1) (eight p)
  pub condition : Stands text (pos + 9) (encode_test t)
  pub first : Stands text (pos + 9 + length (encode_test t)) (encode_stmt a)
  pub second : Stands text (pos + 9 + length (encode_test t) + length (encode_stmt a)) (encode_stmt b)
  pub long : length (encode_stmt x) ≡ 9 + length (encode_test t) + length (encode_stmt a) + length (encode_stmt b)

pub record LoopAt (text : List ℕ) (pos : ℕ) (x : Stmt) : Type 0 where
  pub p : ℕ
  pub t : Test
  pub a : Stmt
  pub is : x ≡ loop p t a
  pub number : Stands text (pos + 1) (eight p)
  pub condition : Stands text (pos + 9) (encode_test t)
  pub body : Stands text (pos + 9 + length (encode_test t)) (encode_stmt a)
  pub long : length (encode_stmt x) ≡ 9 + length (encode_test t) + length (encode_stmt a)

-- a statement that stands at pos, by its first byte
abbrev pub StmtAt : ℕ → List ℕ → ℕ → Stmt → Type 0
StmtAt zero text pos x = SkipAt text pos x
StmtAt (suc zero) text pos x = AssignAt text pos x
StmtAt (suc (suc zero)) text pos x = StoreAt text pos x
StmtAt (suc (suc (suc zero))) text pos x = InputAt text pos x
StmtAt (suc (suc (suc (suc zero)))) text pos x = CheckAt text pos x
StmtAt (suc (suc (suc (suc (suc zero))))) text pos x = SeqAt text pos x
StmtAt (suc (suc (suc (suc (suc (suc zero)))))) text pos x = BranchAt text pos x
StmtAt (suc (suc (suc (suc (suc (suc (suc zero))))))) text pos x = LoopAt text pos x
StmtAt (suc (suc (suc (suc (suc (suc (suc (suc k)))))))) text pos x = ⊥
