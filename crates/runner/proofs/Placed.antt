-- Bytes that stand at a position, of which there are few enough, are placed there; and what two kinds of tests have in common. Rests on encoding's Parts.
use Rattle.std.proofs.Common.{◌≡◌, ℕ, ◌+◌, ◌<◌, ◌≤◌, List, length, get_or, sym, ⊎_elim, arith}
use Rattle.std.proofs.lemmas.Bool.{cases_lt}
use Rattle.program.specs.Syntax.{Expr, Test}
use Rattle.program.specs.Encoding.{encode_expr, encode_test}
use Rattle.encoding.specs.Standing.{Stands}
use Rattle.encoding.proofs.Standing.{stands_move}
use Rattle.encoding.proofs.Parts.{less_at, equal_at, and_at, or_at}
use Rattle.runner.specs.Ready.{Placed}

pub placed : (text : List ℕ) (next pos left : ℕ) (bs : List ℕ) → next ≡ pos → Stands text pos bs → length bs ≤ left → Placed text next left bs
placed text next pos left bs e h l = record { stands = stands_move text pos next bs (sym e) h; enough = l }

-- a comparison: two expressions
pub record CompareAt (text : List ℕ) (pos : ℕ) (x : Test) : Type 0 where
  pub a : Expr
  pub b : Expr
  pub left : Stands text (pos + 1) (encode_expr a)
  pub right : Stands text (pos + 1 + length (encode_expr a)) (encode_expr b)
  pub long : length (encode_test x) ≡ 1 + length (encode_expr a) + length (encode_expr b)

pub compare_at : (text : List ℕ) (pos : ℕ) (x : Test) → Stands text pos (encode_test x) → get_or text pos 0 < 2 → CompareAt text pos x
compare_at text pos x h m =
    ⊎_elim (λ (l : get_or text pos 0 < 1). let p = less_at text pos x h (omega arith) in record { a = p.a; b = p.b; left = p.left; right = p.right; long = p.long })
    (λ (l : 1 ≤ get_or text pos 0). let p = equal_at text pos x h (omega arith) in record { a = p.a; b = p.b; left = p.left; right = p.right; long = p.long }) (cases_lt (get_or text pos 0) 1)

-- a test made of two
pub record BothAt (text : List ℕ) (pos : ℕ) (x : Test) : Type 0 where
  pub t : Test
  pub u : Test
  pub first : Stands text (pos + 1) (encode_test t)
  pub second : Stands text (pos + 1 + length (encode_test t)) (encode_test u)
  pub long : length (encode_test x) ≡ 1 + length (encode_test t) + length (encode_test u)

pub both_at : (text : List ℕ) (pos : ℕ) (x : Test) → Stands text pos (encode_test x) → 3 ≤ get_or text pos 0 → get_or text pos 0 < 5 → BothAt text pos x
both_at text pos x h l m =
    ⊎_elim (λ (n : get_or text pos 0 < 4). let p = and_at text pos x h (omega arith) in record { t = p.t; u = p.u; first = p.first; second = p.second; long = p.long })
    (λ (n : 4 ≤ get_or text pos 0). let p = or_at text pos x h (omega arith) in record { t = p.t; u = p.u; first = p.first; second = p.second; long = p.long }) (cases_lt (get_or text pos 0) 4)
