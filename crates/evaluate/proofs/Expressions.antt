-- What the code finds at each kind of expression is what the definitions say.
use Rattle.std.proofs.Common.{◌≡◌, ℕ, ◌+◌, List, [], ◌∷◌, get_or, Some, sym, refl, ap, ◌∙◌, subst, arith}
use Rattle.program.specs.Syntax.{Expr}
use Rattle.program.specs.Kinds.{operator_code, operator_of}
use Rattle.program.specs.declared.operator.Operator.{Operator}
use Rattle.interval.specs.Interval.{Interval as PlainInterval}
use Rattle.interval.specs.Arithmetic.{capped, combined, element_by}
use Rattle.interval.specs.declared.types.Interval.{Interval}
use Rattle.interval.specs.declared.types.EvalResult.{EvalResult}
use Rattle.interval.specs.Of.{as_interval, as_intervals, Faulty, Says}
use Rattle.interval.proofs.Operators.{combined_of}
use Rattle.analysis.specs.Reach.{unreached, reached}
use Rattle.analysis.specs.AbstractState.{Env, Abstract, nth_interval}
use Rattle.analysis.specs.Evaluation.{eval_interval}
use Rattle.encoding.specs.Standing.{word_at}
use Rattle.encoding.specs.Parts.{NumberAt, VariableAt, BinaryAt, ElementAt}
use Rattle.encoding.proofs.Standing.{eight_stands}
use Rattle.state.specs.Change.{variable_in, array_in}
use Rattle.evaluate.specs.Ready.{ExprReady}
use Rattle.evaluate.specs.Found.{env_in}
use Rattle.evaluate.proofs.ReadyParts.{number_small}

-- look-ups in a state are look-ups in what is known there
pub variable_in_env : (h : Abstract) (x : ℕ) → variable_in h x ≡ nth_interval (env_in h).values x
unfolding nth_interval
variable_in_env unreached x = refl
variable_in_env (reached w) x = refl

pub array_in_env : (h : Abstract) (r : ℕ) → array_in h r ≡ nth_interval (env_in h).arrays r
unfolding nth_interval
array_in_env unreached r = refl
array_in_env (reached w) r = refl

pub number_says : (ns : List ℕ) (w : Env) (text : List ℕ) (pos left : ℕ) (e : Expr) → ExprReady text pos left e → (h : NumberAt text pos e) →
    (n : ℕ) (x : EvalResult) → n ≡ word_at text (pos + 1) → Says x (capped n n) → Says x (eval_interval ns w e)
unfolding eval_interval
number_says ns w text pos left e ready h n x is says =
    let small = number_small text pos left e ready h in
    let same : n ≡ h.n = is ∙ sym (eight_stands text (pos + 1) h.n h.word (omega arith)) in
    subst (λ (d : Expr). Says x (eval_interval ns w d)) (sym h.is) (subst (λ (m : ℕ). Says x (capped m m)) same says)

pub variable_says : (ns : List ℕ) (g : Abstract) (text : List ℕ) (pos : ℕ) (e : Expr) → (h : VariableAt text pos e) →
    (v : ℕ) (s : Interval) (x : EvalResult) → v ≡ get_or text (pos + 1) 0 → as_interval s ≡ variable_in g v → x.interval ≡ Some s → Faulty x.faults [] →
    Says x (eval_interval ns (env_in g) e)
unfolding eval_interval
variable_says ns g text pos e h v s x is found some none =
    let same : nth_interval (env_in g).values h.v ≡ as_interval s =
    ap (λ (k : ℕ). nth_interval (env_in g).values k) (sym (is ∙ h.v_is)) ∙ sym (found ∙ variable_in_env g v) in
    subst (λ (d : Expr). Says x (eval_interval ns (env_in g) d)) (sym h.is)
    (record { intervals = ap (λ (t : PlainInterval). t ∷ []) same ∙ sym (ap as_intervals some); faults = none })

pub binary_says : (ns : List ℕ) (w : Env) (text : List ℕ) (pos : ℕ) (e : Expr) → (h : BinaryAt text pos e) →
    (k : ℕ) (o : Operator) (x : EvalResult) → k ≡ get_or text (pos + 1) 0 → o ≡ operator_of k → Says x (combined (operator_code o) (eval_interval ns w h.a) (eval_interval ns w h.b)) → Says x (eval_interval ns w e)
unfolding eval_interval
binary_says ns w text pos e h k o x is of says =
    subst (λ (d : Expr). Says x (eval_interval ns w d)) (sym h.is)
    (subst (λ (m : ℕ). Says x (combined m (eval_interval ns w h.a) (eval_interval ns w h.b))) (is ∙ h.op_is)
    (rw (combined_of k (eval_interval ns w h.a) (eval_interval ns w h.b)) (rw of at says)))

pub element_says : (ns : List ℕ) (g : Abstract) (text : List ℕ) (pos : ℕ) (e : Expr) → (h : ElementAt text pos e) →
    (k n : ℕ) (s : PlainInterval) (x : EvalResult) → k ≡ get_or text (pos + 1) 0 → n ≡ get_or ns k 0 → s ≡ array_in g k →
    Says x (element_by n s (eval_interval ns (env_in g) h.a)) → Says x (eval_interval ns (env_in g) e)
unfolding eval_interval
element_says ns g text pos e h k n s x is long found says =
    let n-is : n ≡ get_or ns h.r 0 = long ∙ ap (λ (m : ℕ). get_or ns m 0) (is ∙ h.r_is) in
    let s-is : s ≡ nth_interval (env_in g).arrays h.r = found ∙ array_in_env g k ∙ ap (λ (m : ℕ). nth_interval (env_in g).arrays m) (is ∙ h.r_is) in
    subst (λ (d : Expr). Says x (eval_interval ns (env_in g) d)) (sym h.is)
    (subst (λ (t : PlainInterval). Says x (element_by (get_or ns h.r 0) t (eval_interval ns (env_in g) h.a))) s-is
    (subst (λ (m : ℕ). Says x (element_by m s (eval_interval ns (env_in g) h.a))) n-is says))
