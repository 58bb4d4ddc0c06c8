-- What the code finds at each kind of expression is what the definitions say.
use Rattle.std.proofs.Common.{◌≡◌, ℕ, ◌+◌, ◌<◌, List, get_or, sym, ap, ◌∙◌, subst, arith}
use Rattle.std.proofs.lemmas.Bool.Decides.{nat_tests}
use Rattle.program.specs.Basics.{limit}
use Rattle.program.specs.declared.operator.Operator.{Operator}
use Rattle.program.specs.Kinds.{operator_code, operator_of}
use Rattle.program.specs.Syntax.{Expr}
use Rattle.program.specs.Semantics.{State, Evaluated, value, in_range, bind_value, apply_op, eval}
use Rattle.encoding.specs.Standing.{word_at}
use Rattle.encoding.specs.Parts.{NumberAt, VariableAt, BinaryAt, ElementAt}
use Rattle.encoding.proofs.Standing.{eight_stands}
use Rattle.runner.specs.Changes.{element_in}
use Rattle.runner.specs.Found.{FailsBy}
use Rattle.runner.specs.Ready.{ExprReady}
use Rattle.runner.specs.declared.types.EvalError.{EvalError}
use Rattle.runner.specs.declared.types.EvalError.TheVariants.{Fault as Failed, NoProgram as NoPart}
use Rattle.runner.proofs.ReadyParts.{number_small}

-- the same, or what goes on from it, fails for the same reason

pub fails_as : (v w : Evaluated) (e : EvalError) → v ≡ w → FailsBy w e → FailsBy v e
fails_as v w e is h = subst (λ (x : Evaluated). FailsBy x e) (sym is) h

pub fails_on : (w : Evaluated) (f : ℕ → Evaluated) (e : EvalError) → FailsBy w e → FailsBy (bind_value w f) e
unfolding bind_value
fails_on w f (Failed k) h = ap (λ (v : Evaluated). bind_value v f) h
fails_on w f NoPart h = h

is_value : (n : ℕ) → n < limit → in_range n ≡ value n
is_value n l = grind (arith, nat_tests)

pub number_value : (s : State) (text : List ℕ) (pos left : ℕ) (e : Expr) → ExprReady text pos left e → (h : NumberAt text pos e) →
    (n : ℕ) → n ≡ word_at text (pos + 1) → eval s e ≡ value n
unfolding eval
number_value s text pos left e ready h n is =
    let small = number_small text pos left e ready h in
    let same : h.n ≡ n = eight_stands text (pos + 1) h.n h.word (omega arith) ∙ sym is in
    ap (λ (x : Expr). eval s x) h.is ∙ is_value h.n small ∙ ap value same

pub variable_value : (s : State) (text : List ℕ) (pos : ℕ) (e : Expr) → (h : VariableAt text pos e) → (x n : ℕ) → x ≡ get_or text (pos + 1) 0 → n ≡ get_or s.values x 0 → eval s e ≡ value n
unfolding eval
variable_value s text pos e h x n is found =
    ap (λ (d : Expr). eval s d) h.is ∙ sym (ap value (found ∙ ap (λ (k : ℕ). get_or s.values k 0) (is ∙ h.v_is)))

-- two operands

pub binds : (w : Evaluated) (f : ℕ → Evaluated) (n : ℕ) → w ≡ value n → bind_value w f ≡ f n
unfolding bind_value
binds w f n e = ap (λ (v : Evaluated). bind_value v f) e

pub left_fails : (s : State) (text : List ℕ) (pos : ℕ) (e : Expr) → (h : BinaryAt text pos e) → (x : EvalError) → FailsBy (eval s h.a) x → FailsBy (eval s e) x
unfolding eval
left_fails s text pos e h x a = fails_as (eval s e) _ x (ap (λ (d : Expr). eval s d) h.is) (fails_on (eval s h.a) _ x a)

pub right_fails : (s : State) (text : List ℕ) (pos : ℕ) (e : Expr) → (h : BinaryAt text pos e) → (n : ℕ) (x : EvalError) → eval s h.a ≡ value n → FailsBy (eval s h.b) x → FailsBy (eval s e) x
unfolding eval
right_fails s text pos e h n x a b =
    fails_as (eval s e) _ x (ap (λ (d : Expr). eval s d) h.is ∙ binds (eval s h.a) (λ i. bind_value (eval s h.b) (λ m. apply_op h.op i m)) n a) (fails_on (eval s h.b) _ x b)

-- the operator with a number does what the number says
operates : (k a b : ℕ) → apply_op (operator_code (operator_of k)) a b ≡ apply_op k a b
operates k a b = grind (arith, nat_tests)

pub operates_as : (k a b : ℕ) (op : Operator) → op ≡ operator_of k → apply_op (operator_code op) a b ≡ apply_op k a b
operates_as k a b op e = ap (λ (o : Operator). apply_op (operator_code o) a b) e ∙ operates k a b

pub binary_value : (s : State) (text : List ℕ) (pos : ℕ) (e : Expr) → (h : BinaryAt text pos e) → (op n m : ℕ) → op ≡ get_or text (pos + 1) 0 →
    eval s h.a ≡ value n → eval s h.b ≡ value m → eval s e ≡ apply_op op n m
unfolding eval
binary_value s text pos e h op n m is a b =
    ap (λ (d : Expr). eval s d) h.is ∙ binds (eval s h.a) _ n a ∙ binds (eval s h.b) _ m b ∙ sym (ap (λ (k : ℕ). apply_op k n m) (is ∙ h.op_is))

-- an index

pub index_fails : (s : State) (text : List ℕ) (pos : ℕ) (e : Expr) → (h : ElementAt text pos e) → (x : EvalError) → FailsBy (eval s h.a) x → FailsBy (eval s e) x
unfolding eval
index_fails s text pos e h x a = fails_as (eval s e) _ x (ap (λ (d : Expr). eval s d) h.is) (fails_on (eval s h.a) _ x a)

pub element_value : (s : State) (text : List ℕ) (pos : ℕ) (e : Expr) → (h : ElementAt text pos e) → (r n : ℕ) → r ≡ get_or text (pos + 1) 0 →
    eval s h.a ≡ value n → eval s e ≡ element_in s r n
unfolding eval
element_value s text pos e h r n is a =
    ap (λ (d : Expr). eval s d) h.is ∙ binds (eval s h.a) _ n a ∙ sym (ap (λ (k : ℕ). element_in s k n) (is ∙ h.r_is))
