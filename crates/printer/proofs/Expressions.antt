-- What is printed of each kind of expression is what the definitions say.
use Rattle.std.proofs.Common.{◌≡◌, ℕ, ◌+◌, ◌==◌, Bool, true, false, cond, List, ◌++◌, get_or, codes, decimal, sym, refl, ap, ◌∙◌}
use Rattle.program.specs.Kinds.{operator_code, operator_of}
use Rattle.program.specs.declared.operator.Operator.TheVariants.{Sum, Difference, Product, Quotient, Remainder}
use Rattle.program.specs.Syntax.{Expr}
use Rattle.encoding.specs.Parts.{NumberAt, VariableAt, BinaryAt, ElementAt}
use Rattle.printer.specs.Text.{variable_word, array_word, sign_text, opening, closing, text_expr}

pub number_text : (text : List ℕ) (pos : ℕ) (e : Expr) (h : NumberAt text pos e) (operand : Bool) (n : ℕ) → n ≡ h.n → decimal n ≡ text_expr operand e
unfolding text_expr
number_text text pos e h operand n is = ap decimal is ∙ sym (ap (text_expr operand) h.is)

pub variable_text : (text : List ℕ) (pos : ℕ) (e : Expr) (h : VariableAt text pos e) (operand : Bool) (x : ℕ) → x ≡ get_or text (pos + 1) 0 → variable_word x ≡ text_expr operand e
unfolding text_expr
variable_text text pos e h operand x is = ap variable_word (is ∙ h.v_is) ∙ sym (ap (text_expr operand) h.is)

-- a number's sign is that of its operator
sign_again : (k : ℕ) → sign_text (operator_code (operator_of k)) ≡ sign_text k
sign_again k = by_tests (k == 0) (k == 1) (k == 2) (k == 3)
  where
    by_tests : (a b c d : Bool) →
        sign_text (operator_code (cond a Sum (cond b Difference (cond c Product (cond d Quotient Remainder)))))
        ≡ cond a (codes " + ") (cond b (codes " - ") (cond c (codes " * ") (cond d (codes " / ") (codes " % "))))
    by_tests true b c d = refl
    by_tests false true c d = refl
    by_tests false false true d = refl
    by_tests false false false true = refl
    by_tests false false false false = refl

pub binary_text : (text : List ℕ) (pos : ℕ) (e : Expr) (h : BinaryAt text pos e) (operand : Bool) (op : ℕ) (word : List ℕ) → word ≡ sign_text (operator_code (operator_of op)) → op ≡ get_or text (pos + 1) 0 →
    opening operand ++ text_expr true h.a ++ word ++ text_expr true h.b ++ closing operand ≡ text_expr operand e
unfolding text_expr
binary_text text pos e h operand op word w is =
    ap (λ (x : List ℕ). opening operand ++ text_expr true h.a ++ x ++ text_expr true h.b ++ closing operand) (w ∙ sign_again op ∙ ap sign_text (is ∙ h.op_is)) ∙ sym (ap (text_expr operand) h.is)

pub element_text : (text : List ℕ) (pos : ℕ) (e : Expr) (h : ElementAt text pos e) (operand : Bool) (r : ℕ) → r ≡ get_or text (pos + 1) 0 →
    array_word r ++ codes "[" ++ text_expr false h.a ++ codes "]" ≡ text_expr operand e
unfolding text_expr
element_text text pos e h operand r is =
    ap (λ (x : ℕ). array_word x ++ codes "[" ++ text_expr false h.a ++ codes "]") (is ∙ h.r_is) ∙ sym (ap (text_expr operand) h.is)
