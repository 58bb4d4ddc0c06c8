-- All that a statement must satisfy, in the order in which one pass over its bytes meets it. Assumes nothing: these are definitions.
use Rattle.std.specs.Prelude.{ℕ, ◌+◌, ◌-◌, Bool, true, ◌&&◌, length, ◌==◌, nat_le, nat_lt}
use Rattle.program.specs.Basics.{limit}
use Rattle.program.specs.Syntax.{Stmt, skip, assign, store, input, check, seq, branch, loop}
use Rattle.program.specs.Validity.{valid_expr, valid_condition, stmt_numbers}

-- valid for n variables and r arrays, nested at most k deep and in loops at most l deep, its numbers consecutive from j
unfoldable pub valid_from : ℕ → ℕ → ℕ → ℕ → ℕ → Stmt → Bool
valid_from n r k l j skip = true
valid_from n r k l j (assign p x e) = p == j && (nat_lt x n && valid_expr n r e)
valid_from n r k l j (store p s a e) = p == j && (nat_lt s r && (valid_expr n r a && valid_expr n r e))
valid_from n r k l j (input p x a b) = p == j && (nat_lt x n && (nat_le a b && nat_lt b limit))
valid_from n r k l j (check p t) = p == j && valid_condition n r t
valid_from n r k l j (seq a b) = valid_from n r k l j a && valid_from n r k l (j + length (stmt_numbers a)) b
valid_from n r k l j (branch p t a b) =
    nat_lt 0 k && ((p == j && valid_condition n r t) && (valid_from n r (k - 1) l (j + 1) a && valid_from n r (k - 1) l (j + 1 + length (stmt_numbers a)) b))
valid_from n r k l j (loop p t a) =
    (nat_lt 0 k && nat_lt 0 l) && ((p == j && valid_condition n r t) && valid_from n r (k - 1) (l - 1) (j + 1) a)
