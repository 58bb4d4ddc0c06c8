-- Expressions by their first byte: each kind is its parts behind that byte. Rests on Forms, and on what stands behind a first byte.
use Rattle.std.proofs.Common.{ℕ, zero, suc, ◌≤◌, List, length, None, sym, refl, arith}
use Rattle.program.specs.Syntax.{Expr, num, var, bin, element}
use Rattle.program.specs.Encoding.{encode_expr}
use Rattle.program.specs.Validity.{valid_expr}
use Rattle.encoding.specs.Parts.{ExprAt}
use Rattle.encoding.proofs.Lengths.{expr_long}
use Rattle.encoding.proofs.Parts.{expr_at, number_at, variable_at, binary_at, element_at}
use Rattle.scanner.specs.Bytes.{ByteAt}
use Rattle.scanner.specs.Form.{Form, followed, Scanned}
use Rattle.scanner.specs.Parts.{byte_form, number_form, expr_form, exprs_form}
use Rattle.scanner.proofs.Forms.{Tagged}
use Rattle.scanner.proofs.Parts.{some_within}

no_kind : (text : List ℕ) (pos : ℕ) (e : Expr) (k : ℕ) → 4 ≤ k → ExprAt k text pos e → ⊥
no_kind text pos e zero l h = omega arith
no_kind text pos e (suc zero) l h = omega arith
no_kind text pos e (suc (suc zero)) l h = omega arith
no_kind text pos e (suc (suc (suc zero))) l h = omega arith
no_kind text pos e (suc (suc (suc (suc k)))) l h = h

module _ (n r : ℕ) where
  pub num_tagged : Tagged number_form (expr_form n r) 0 num (λ s. s)
  unfolding valid_expr encode_expr
  num_tagged = record {
    passes = λ v. refl;
    bytes = λ v. refl;
    answer = λ stop v s p a. a;
    back = λ text pos w h e. let q = number_at text pos w h e in (q.n, sym q.is);
  }

  pub var_tagged : Tagged (byte_form n) (expr_form n r) 1 var (λ s. s)
  unfolding valid_expr encode_expr
  var_tagged = record {
    passes = λ v. refl;
    bytes = λ v. refl;
    answer = λ stop v s p a. a;
    back = λ text pos w h e. let q = variable_at text pos w h e in (q.v, sym q.is);
  }

  -- an operator and its operands
  abbrev pub bin_parts : Form (ℕ × (Expr × Expr)) ℕ
  bin_parts = followed (byte_form 5) (λ k. exprs_form n r)

  pub bin_tagged : Tagged bin_parts (expr_form n r) 2 (λ p. bin p.0 p.1.0 p.1.1) (λ s. s)
  unfolding valid_expr encode_expr
  bin_tagged = record {
    passes = λ v. refl;
    bytes = λ v. refl;
    answer = λ stop v s p a. a;
    back = λ text pos w h e. let q = binary_at text pos w h e in ((q.op, (q.a, q.b)), sym q.is);
  }

  -- an array and an index
  abbrev pub element_parts : Form (ℕ × Expr) ℕ
  element_parts = followed (byte_form r) (λ s. expr_form n r)

  pub element_tagged : Tagged element_parts (expr_form n r) 3 (λ p. element p.0 p.1) (λ s. s)
  unfolding valid_expr encode_expr
  element_tagged = record {
    passes = λ v. refl;
    bytes = λ v. refl;
    answer = λ stop v s p a. a;
    back = λ text pos w h e. let q = element_at text pos w h e in ((q.r, q.a), sym q.is);
  }

  pub expr_past : (text : List ℕ) (pos : ℕ) → length text ≤ pos → Scanned (expr_form n r) text pos None
  expr_past text pos l e h = omega (arith, expr_long e, some_within text pos (encode_expr e) (omega (arith, expr_long e)) h.stands)

  -- no expression begins with another byte
  pub expr_other : (text : List ℕ) (pos k : ℕ) → ByteAt text pos k → 4 ≤ k → Scanned (expr_form n r) text pos None
  expr_other text pos k b l e h = no_kind text pos e k l (expr_at text pos e k h.stands b.is)
