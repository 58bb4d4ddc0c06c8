-- A reader of encoded commands: it takes a text apart from the left. `hear` takes a text for a command only if the command is valid and is encoded as that text.
-- Assumes nothing: these are definitions.
use Rattle.std.specs.Prelude.{ℕ, zero, suc, ◌+◌, ◌*◌, cond, ◌&&◌, List, [], ◌∷◌, length}
use Rattle.program.specs.Basics.{same_list}
use Rattle.program.specs.Syntax.{Expr, num, var, bin, element, Test, less, equal, not_test, and_test, or_test, Stmt, skip, assign, store, input, check, seq, branch, loop, Program}
use Rattle.program.specs.Command.{Command, load, all_alarms, at_end, encode, valid}

-- what reading gives: nothing, or a value and the bytes behind it
pub data Out (A : Type 0) : Type 0 where
  fail : Out A
  ok : A → List ℕ → Out A

-- it reads from the left of a text
abbrev pub Reader : Type 0 → Type 0
Reader A = List ℕ → Out A

-- go on with the value and the bytes behind it
unfoldable pub and_read : {A B : Type 0} → Out A → (A → List ℕ → Out B) → Out B
and_read fail f = fail
and_read (ok a xs) f = f a xs

-- one byte
unfoldable pub read_byte : Reader ℕ
read_byte [] = fail
read_byte (x ∷ xs) = ok x xs

-- the number whose higher base-256 digits are n and whose last k stand first
unfoldable pub read_digits : ℕ → ℕ → Reader ℕ
read_digits zero n xs = ok n xs
read_digits (suc k) n [] = fail
read_digits (suc k) n (x ∷ xs) = read_digits k (n * 256 + x) xs

-- a number of eight bytes, the highest first
abbrev pub read_eight : Reader ℕ
read_eight xs = read_digits 8 0 xs

-- the first byte says which of the readers goes on
unfoldable pub by_tag : {A : Type 0} → List (Reader A) → ℕ → Reader A
by_tag [] k xs = fail
by_tag (r ∷ rs) zero xs = r xs
by_tag (r ∷ rs) (suc k) xs = by_tag rs k xs

-- an expression of at most f levels
unfoldable pub read_expr : ℕ → Reader Expr
read_expr zero xs = fail
read_expr (suc f) xs = and_read (read_byte xs) (by_tag (
    (λ ys. and_read (read_eight ys) (λ n zs. ok (num n) zs))
    ∷ (λ ys. and_read (read_byte ys) (λ x zs. ok (var x) zs))
    ∷ (λ ys. and_read (read_byte ys) (λ k zs. and_read (read_expr f zs) (λ a us. and_read (read_expr f us) (λ b vs. ok (bin k a b) vs))))
    ∷ (λ ys. and_read (read_byte ys) (λ r zs. and_read (read_expr f zs) (λ a us. ok (element r a) us)))
    ∷ []))

-- a test of at most f levels
unfoldable pub read_test : ℕ → Reader Test
read_test zero xs = fail
read_test (suc f) xs = and_read (read_byte xs) (by_tag (
    (λ ys. and_read (read_expr f ys) (λ a zs. and_read (read_expr f zs) (λ b us. ok (less a b) us)))
    ∷ (λ ys. and_read (read_expr f ys) (λ a zs. and_read (read_expr f zs) (λ b us. ok (equal a b) us)))
    ∷ (λ ys. and_read (read_test f ys) (λ t zs. ok (not_test t) zs))
    ∷ (λ ys. and_read (read_test f ys) (λ t zs. and_read (read_test f zs) (λ u us. ok (and_test t u) us)))
    ∷ (λ ys. and_read (read_test f ys) (λ t zs. and_read (read_test f zs) (λ u us. ok (or_test t u) us)))
    ∷ []))

-- a statement of at most f levels
unfoldable pub read_stmt : ℕ → Reader Stmt
read_stmt zero xs = fail
read_stmt (suc f) xs = and_read (read_byte xs) (by_tag (
    (λ ys. ok skip ys)
    ∷ (λ ys. and_read (read_eight ys) (λ p zs. and_read (read_byte zs) (λ x us. and_read (read_expr f us) (λ e vs. ok (assign p x e) vs))))
    ∷ (λ ys. and_read (read_eight ys) (λ p zs. and_read (read_byte zs) (λ r us. and_read (read_expr f us) (λ a vs. and_read (read_expr f vs) (λ e ws. ok (store p r a e) ws)))))
    ∷ (λ ys. and_read (read_eight ys) (λ p zs. and_read (read_byte zs) (λ x us. and_read (read_eight us) (λ a vs. and_read (read_eight vs) (λ b ws. ok (input p x a b) ws)))))
    ∷ (λ ys. and_read (read_eight ys) (λ p zs. and_read (read_test f zs) (λ t us. ok (check p t) us)))
    ∷ (λ ys. and_read (read_stmt f ys) (λ a zs. and_read (read_stmt f zs) (λ b us. ok (seq a b) us)))
    ∷ (λ ys. and_read (read_eight ys) (λ p zs. and_read (read_test f zs) (λ t us. and_read (read_stmt f us) (λ a vs. and_read (read_stmt f vs) (λ b ws. ok (branch p t a b) ws)))))
    ∷ (λ ys. and_read (read_eight ys) (λ p zs. and_read (read_test f zs) (λ t us. and_read (read_stmt f us) (λ a vs. ok (loop p t a) vs))))
    ∷ []))

-- so many numbers of eight bytes each
unfoldable pub read_numbers : ℕ → Reader (List ℕ)
read_numbers zero xs = ok [] xs
read_numbers (suc k) xs = and_read (read_eight xs) (λ n ys. and_read (read_numbers k ys) (λ ns zs. ok (n ∷ ns) zs))

-- the arrays' lengths: first how many there are
abbrev pub read_arrays : Reader (List ℕ)
read_arrays xs = and_read (read_eight xs) (λ k ys. read_numbers k ys)

-- a program whose body has at most f levels
unfoldable pub read_program : ℕ → Reader Program
read_program f xs =
    and_read (read_byte xs) (λ n ys. and_read (read_arrays ys) (λ rs zs. and_read (read_stmt f zs) (λ d us. ok (record { vars = n; arrays = rs; body = d }) us)))

-- a command whose program has at most f levels
unfoldable pub read_command : ℕ → Reader Command
read_command f xs = and_read (read_byte xs) (by_tag (
    (λ ys. fail)
    ∷ (λ ys. and_read (read_program f ys) (λ p zs. ok (load p) zs))
    ∷ (λ ys. ok all_alarms ys)
    ∷ (λ ys. and_read (read_byte ys) (λ x zs. ok (at_end x) zs))
    ∷ []))

-- what a text says: no command, or this one
pub data Heard : Type 0 where
  nothing : Heard
  heard : Command → Heard

-- what was read of the text: a command if nothing is left over, the command is valid and encoding it gives the text again
unfoldable pub if_valid : List ℕ → Out Command → Heard
if_valid text fail = nothing
if_valid text (ok c []) = cond (valid c && same_list (encode c) text) (heard c) nothing
if_valid text (ok c (x ∷ xs)) = nothing

-- the command that a text says, if any
unfoldable pub hear : List ℕ → Heard
hear text = if_valid text (read_command (length text) text)
