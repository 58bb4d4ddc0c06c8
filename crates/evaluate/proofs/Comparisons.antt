-- What the code finds of a comparison is what the definitions say of the test.
use Rattle.std.proofs.Common.{◌≡◌, ℕ, suc, ◌+◌, ◌-◌, Bool, true, false, cond, ltb, leb, List, [], ◌∷◌, ◌++◌, get_or, Some, None, Option, sym, refl, ap, ◌∙◌, subst, add-one, arith}
use Rattle.std.proofs.lemmas.List.{append-nil}
use Rattle.program.specs.Basics.{smaller, larger}
use Rattle.program.specs.Syntax.{Expr, num, var, bin, element}
use Rattle.program.specs.Encoding.{encode_expr}
use Rattle.interval.specs.Interval.{Interval, interval, meet}
use Rattle.interval.specs.declared.types.Interval.{Interval as CodeInterval}
use Rattle.interval.specs.declared.types.Faults.{Faults}
use Rattle.interval.specs.declared.types.EvalResult.{EvalResult}
use Rattle.interval.specs.Of.{as_interval, as_intervals, Faulty, faults_or, Says}
use Rattle.interval.proofs.Combining.{faulty_or}
use Rattle.analysis.specs.Reach.{unreached, reached, bind, faults_in}
use Rattle.analysis.specs.AbstractState.{Env, Abstract}
use Rattle.analysis.specs.Evaluation.{eval_interval}
use Rattle.analysis.specs.Assume.{cut, if_both, assume_less, assume_not_less, assume_equal, assume, test_faults}
use Rattle.encoding.specs.Standing.{Stands}
use Rattle.encoding.proofs.Parts.{expr_first, variable_at}
use Rattle.state.specs.Of.{as_abstract}
use Rattle.state.specs.Change.{cut_in}
use Rattle.evaluate.specs.declared.types.Ways.{Ways}
use Rattle.evaluate.specs.declared.types.Comparison.{Comparison}
use Rattle.evaluate.specs.declared.types.Comparison.TheVariants.{Less, Equal}
use Rattle.evaluate.specs.Comparing.{variable_of, cut_both, less_in, not_less_in, equal_in, holds_in, fails_in, comparison, nowhere, Compared}
use Rattle.evaluate.specs.Found.{eval_here, Splits}

no_cons : {A : Type 0} {x : A} {xs : List A} → ◌≡◌ {A = List A} [] (x ∷ xs) → ⊥
no_cons e = let z : ◌≡◌ {A = ℕ} 0 1 = cc in omega arith

-- an expression whose first byte is 1 is the variable of the second
pub is_variable : (text : List ℕ) (pos : ℕ) (e : Expr) → Stands text pos (encode_expr e) → get_or text pos 0 ≡ 1 →
    (x : ℕ) → x ≡ get_or text (pos + 1) 0 → Some x ≡ variable_of e
is_variable text pos e h one x is =
    let v = variable_at text pos e h one in
    ap (λ (k : ℕ). Some k) (is ∙ v.v_is) ∙ sym (ap variable_of v.is)

-- another is none
pub no_variable : (text : List ℕ) (pos : ℕ) (e : Expr) → Stands text pos (encode_expr e) → (get_or text pos 0 ≡ 1 → ⊥) → None ≡ variable_of e
no_variable text pos (num n) h other = refl
no_variable text pos (var x) h other = absurd (other (expr_first text pos (var x) h))
no_variable text pos (bin k a b) h other = refl
no_variable text pos (element r a) h other = refl

cut_in_cut : (e : Expr) (h : Abstract) (s : Interval) → cut_in (variable_of e) h s ≡ bind h (λ w. cut e w s)
unfolding cut bind
cut_in_cut (num n) unreached s = refl
cut_in_cut (num n) (reached w) s = refl
cut_in_cut (var x) unreached s = refl
cut_in_cut (var x) (reached w) s = refl
cut_in_cut (bin k a b) unreached s = refl
cut_in_cut (bin k a b) (reached w) s = refl
cut_in_cut (element r a) unreached s = refl
cut_in_cut (element r a) (reached w) s = refl

cut_both_cut : (a b : Expr) (w : Env) (s t : Interval) → cut_both (variable_of a) (variable_of b) (reached w) s t ≡ bind (cut a w s) (λ v. cut b v t)
unfolding bind
cut_both_cut a b w s t = cut_in_cut b (cut_in (variable_of a) (reached w) s) t ∙ ap (λ (h : Abstract). bind h (λ v. cut b v t)) (cut_in_cut a (reached w) s)

less_is : (a b : Expr) (w : Env) (s t : Interval) → less_in (variable_of a) (variable_of b) (reached w) s t ≡ assume_less a b w s t
less_is a b w s t =
    ap (λ (h : Abstract). cond (ltb s.lo t.hi) h unreached)
    (ap (λ (n : ℕ). cut_both (variable_of a) (variable_of b) (reached w) (interval 0 (t.hi - 1)) (interval n t.hi)) (add-one s.lo)
    ∙ cut_both_cut a b w (interval 0 (t.hi - 1)) (interval (suc s.lo) t.hi))

not_less_is : (a b : Expr) (w : Env) (s t : Interval) → not_less_in (variable_of a) (variable_of b) (reached w) s t ≡ assume_not_less a b w s t
not_less_is a b w s t = ap (λ (h : Abstract). cond (leb t.lo s.hi) h unreached) (cut_both_cut a b w (interval t.lo s.hi) (interval 0 s.hi))

equal_is : (a b : Expr) (w : Env) (s t : Interval) → equal_in (variable_of a) (variable_of b) (reached w) s t ≡ assume_equal a b w s t
equal_is a b w s t = ap (λ (h : Abstract). cond (leb (larger s.lo t.lo) (smaller s.hi t.hi)) h unreached) (cut_both_cut a b w (meet s t) (meet s t))

-- a test that compares, worked out: both expressions have values, the first has none, the second has none
abbrev outcome_in : Bool → Comparison → Expr → Expr → Env → Interval → Interval → Abstract
outcome_in true k a b w s t = holds_in k (variable_of a) (variable_of b) (reached w) s t
outcome_in false k a b w s t = fails_in k (variable_of a) (variable_of b) (reached w) s t

assume_values : (ns : List ℕ) (o : Bool) (k : Comparison) (a b : Expr) (w : Env) (s t : Interval) →
    (eval_interval ns w a).intervals ≡ s ∷ [] → (eval_interval ns w b).intervals ≡ t ∷ [] → outcome_in o k a b w s t ≡ assume ns o (comparison k a b) w
unfolding assume if_both
assume_values ns true Less a b w s t e f = rw (e, f) (less_is a b w s t)
assume_values ns true Equal a b w s t e f = rw (e, f) (equal_is a b w s t)
assume_values ns false Less a b w s t e f = rw (e, f) (not_less_is a b w s t)
assume_values ns false Equal a b w s t e f = rw (e, f) refl

assume_no_first : (ns : List ℕ) (o : Bool) (k : Comparison) (a b : Expr) (w : Env) → (eval_interval ns w a).intervals ≡ [] → unreached ≡ assume ns o (comparison k a b) w
unfolding assume if_both
assume_no_first ns o Less a b w e = rw e refl
assume_no_first ns o Equal a b w e = rw e refl

assume_no_second : (ns : List ℕ) (o : Bool) (k : Comparison) (a b : Expr) (w : Env) (s : Interval) →
    (eval_interval ns w a).intervals ≡ s ∷ [] → (eval_interval ns w b).intervals ≡ [] → unreached ≡ assume ns o (comparison k a b) w
unfolding assume if_both
assume_no_second ns o Less a b w s e f = rw (e, f) refl
assume_no_second ns o Equal a b w s e f = rw (e, f) refl

-- the faults of a comparison are those of the first expression, and of the second if the first has a value
faults_no_first : (ns : List ℕ) (k : Comparison) (a b : Expr) (w : Env) → (eval_interval ns w a).intervals ≡ [] →
    (eval_interval ns w a).faults ≡ test_faults ns (comparison k a b) w
unfolding test_faults
faults_no_first ns Less a b w e = rw (e, append-nil (eval_interval ns w a).faults) refl
faults_no_first ns Equal a b w e = rw (e, append-nil (eval_interval ns w a).faults) refl

faults_first : (ns : List ℕ) (k : Comparison) (a b : Expr) (w : Env) (s : Interval) → (eval_interval ns w a).intervals ≡ s ∷ [] →
    (eval_interval ns w a).faults ++ (eval_interval ns w b).faults ≡ test_faults ns (comparison k a b) w
unfolding test_faults
faults_first ns Less a b w s e = rw (e, append-nil (eval_interval ns w b).faults) refl
faults_first ns Equal a b w s e = rw (e, append-nil (eval_interval ns w b).faults) refl

-- the first expression has no value
pub split_no_first : (ns : List ℕ) (h : Abstract) (k : Comparison) (a b : Expr) (x : EvalResult) (stop at : ℕ) (r : Ways) → r ≡ nowhere x.faults at → at ≡ stop →
    x.interval ≡ None → Says x (eval_here ns h a) → Splits stop ns h (comparison k a b) r
unfolding bind faults_in
split_no_first ns unreached k a b x stop at r none is empty says = rw none (record { yes = refl; no = refl; faults = says.faults; end = is })
split_no_first ns (reached w) k a b x stop at r none is empty says =
    let e = says.intervals ∙ ap as_intervals empty in
    rw none (record {
      yes = assume_no_first ns true k a b w e;
      no = assume_no_first ns false k a b w e;
      faults = subst (Faulty x.faults) (faults_no_first ns k a b w e) says.faults;
      end = is;
    })

-- the second has none
pub split_no_second : (ns : List ℕ) (h : Abstract) (k : Comparison) (a b : Expr) (s : CodeInterval) (x y : EvalResult) (u : Faults) (stop at : ℕ) (r : Ways) →
    r ≡ nowhere u at → at ≡ stop → u ≡ faults_or x.faults y.faults → x.interval ≡ Some s → y.interval ≡ None →
    Says x (eval_here ns h a) → Says y (eval_here ns h b) → Splits stop ns h (comparison k a b) r
unfolding bind faults_in
split_no_second ns unreached k a b s x y u stop at r none is both some empty p q = absurd (no_cons (p.intervals ∙ ap as_intervals some))
split_no_second ns (reached w) k a b s x y u stop at r none is both some empty p q =
    let e = p.intervals ∙ ap as_intervals some in
    let f = q.intervals ∙ ap as_intervals empty in
    rw none (record {
      yes = assume_no_second ns true k a b w (as_interval s) e f;
      no = assume_no_second ns false k a b w (as_interval s) e f;
      faults = rw both (subst (Faulty (faults_or x.faults y.faults)) (faults_first ns k a b w (as_interval s) e) (faulty_or x.faults y.faults _ _ p.faults q.faults));
      end = is;
    })

-- both have values
pub split_values : (ns : List ℕ) (h : Abstract) (k : Comparison) (a b : Expr) (s t : CodeInterval) (x y : EvalResult) (stop : ℕ) (before r : Ways) →
    as_abstract before.yes ≡ h → as_abstract before.no ≡ h → before.faults ≡ faults_or x.faults y.faults → before.end ≡ stop →
    x.interval ≡ Some s → y.interval ≡ Some t → Says x (eval_here ns h a) → Says y (eval_here ns h b) →
    (m n : Option ℕ) → m ≡ variable_of a → n ≡ variable_of b → Compared k m n (as_interval s) (as_interval t) before r → Splits stop ns h (comparison k a b) r
unfolding bind faults_in
split_values ns unreached k a b s t x y stop before r yes-is no-is both is some_x some_y p q m n em en d =
    absurd (no_cons (p.intervals ∙ ap as_intervals some_x))
split_values ns (reached w) k a b s t x y stop before r yes-is no-is both is some_x some_y p q m n em en d =
    let e = p.intervals ∙ ap as_intervals some_x in
    let held = assume_values ns true k a b w (as_interval s) (as_interval t) e (q.intervals ∙ ap as_intervals some_y) in
    let failed = assume_values ns false k a b w (as_interval s) (as_interval t) e (q.intervals ∙ ap as_intervals some_y) in
    record {
      yes = cc;
      no = cc;
      faults = rw (d.faults, both) (subst (Faulty (faults_or x.faults y.faults)) (faults_first ns k a b w (as_interval s) e) (faulty_or x.faults y.faults _ _ p.faults q.faults));
      end = d.end ∙ is;
    }
