-- Passes through statements without parts, from what the code reads, evaluates and marks.
use Rattle.std.proofs.Common.{◌≡◌, ℕ, ◌+◌, ◌<◌, ◌≤◌, true, false, ltb, leb, List, [], ◌∷◌, length, get_or, sym, refl, ap, ◌∙◌, subst, append-nil, arith, ltb-true, leb-true, Some, None}
use Rattle.std.proofs.lemmas.Bool.{and_parts}
use Rattle.std.proofs.lemmas.Bool.Decides.{nat_tests}
use Rattle.program.specs.Basics.{eight, larger, limit}
use Rattle.program.specs.Syntax.{Expr, Test, Stmt}
use Rattle.program.specs.Encoding.{encode_expr, encode_test, encode_stmt}
use Rattle.program.specs.Validity.{valid_stmt, stmt_numbers}
use Rattle.encoding.specs.Standing.{Stands, word_at}
use Rattle.encoding.specs.Parts.{AssignAt, StoreAt, InputAt, CheckAt}
use Rattle.encoding.proofs.Standing.{stands_inside, eight_stands}
use Rattle.encoding.proofs.Lengths.{length_eight}
use Rattle.interval.specs.Interval.{Interval as PlainInterval, interval}
use Rattle.interval.specs.Arithmetic.{EvalResult as PlainResult}
use Rattle.interval.specs.declared.types.Interval.{Interval}
use Rattle.interval.specs.declared.types.Faults.{Faults}
use Rattle.interval.specs.declared.types.EvalResult.{EvalResult}
use Rattle.interval.specs.Of.{as_interval, as_intervals, Faulty, faults_or, Says}
use Rattle.interval.proofs.Combining.{faulty_or}
use Rattle.analysis.specs.Reach.{unreached, reached, bind, faults_in, alarms_at}
use Rattle.analysis.specs.AbstractState.{Env, Abstract, within}
use Rattle.analysis.specs.Evaluation.{eval_interval}
use Rattle.analysis.specs.Analyser.{index_in_range, assigned, stored}
use Rattle.analysis.specs.Clauses.{assign_here, expr_faults_here, store_here, store_faults_here, input_here, assume_here, faults_here, check_faults_here}
use Rattle.state.specs.Change.{put_in, store_in}
use Rattle.evaluate.specs.declared.types.Evaluated.{Evaluated}
use Rattle.evaluate.specs.Found.{eval_here, Evaluates}
use Rattle.walker.specs.Ready.{Low, StmtReady}
use Rattle.walker.specs.Store.{if_index, store_result}
use Rattle.walker.specs.Table.{Marked}
use Rattle.walker.specs.Walk.{Walked}
use Rattle.walker.proofs.Walking.{walked_assign, walked_store, walked_input, walked_check}

-- the number read behind a statement's first byte
pub number_is : (text : List ℕ) (pos p r : ℕ) → Stands text (pos + 1) (eight p) → Low p → (pos + 1 + 8 ≤ length text → r ≡ word_at text (pos + 1)) → r ≡ p
number_is text pos p r h l e =
    let within : pos + 1 + 8 ≤ length text = rw length_eight at (stands_inside text (pos + 1) (eight p) (rw length_eight (omega arith)) h) in
    e within ∙ sym (eight_stands text (pos + 1) p h l)

-- the faults that were found
found_faults : (ns : List ℕ) (e : Expr) (h : Abstract) → (eval_here ns h e).faults ≡ expr_faults_here ns e h
unfolding faults_in
found_faults ns e unreached = refl
found_faults ns e (reached w) = refl

put_value : (ns : List ℕ) (x : ℕ) (e : Expr) (h : Abstract) (s : PlainInterval) → (eval_here ns h e).intervals ≡ s ∷ [] → put_in h x s ≡ assign_here ns x e h
unfolding bind assigned
put_value ns x e unreached s q = cc
put_value ns x e (reached w) s q = rw q refl

put_nothing : (ns : List ℕ) (x : ℕ) (e : Expr) (h : Abstract) → (eval_here ns h e).intervals ≡ [] → unreached ≡ assign_here ns x e h
unfolding bind assigned
put_nothing ns x e unreached q = refl
put_nothing ns x e (reached w) q = rw q refl

larger_is : (a b : ℕ) → a ≤ b → b ≡ larger a b
larger_is a b h = grind (arith, nat_tests)

put_input : (h : Abstract) (x v lo hi a b : ℕ) → x ≡ v → lo ≡ a → hi ≡ b → lo ≤ hi → put_in h x (interval lo hi) ≡ input_here v a b h
unfolding bind
put_input unreached x v lo hi a b e f g l = refl
put_input (reached w) x v lo hi a b e f g l =
    let m : hi ≡ larger a b = g ∙ larger_is a b (omega arith) in
    rw (e, f, m) refl

-- the same of a store
store_value_in : (ns : List ℕ) (x : ℕ) (a e : Expr) (h : Abstract) (s : PlainInterval) →
    (store_result (get_or ns x 0) (eval_here ns h a) (eval_here ns h e)).intervals ≡ s ∷ [] → store_in h x s ≡ store_here ns x a e h
unfolding bind stored
store_value_in ns x a e unreached s q = cc
store_value_in ns x a e (reached w) s q = by_index (index_in_range (get_or ns x 0) (eval_interval ns w a).intervals) q
  where
    by_index : (is : List PlainInterval) → if_index is (eval_interval ns w e).intervals ≡ s ∷ [] → store_in (reached w) x s ≡ stored w x is (eval_interval ns w e).intervals
    by_index [] p = cc
    by_index (i ∷ is) p = rw p refl

store_nothing_in : (ns : List ℕ) (x : ℕ) (a e : Expr) (h : Abstract) →
    (store_result (get_or ns x 0) (eval_here ns h a) (eval_here ns h e)).intervals ≡ [] → unreached ≡ store_here ns x a e h
unfolding bind stored
store_nothing_in ns x a e unreached q = refl
store_nothing_in ns x a e (reached w) q = by_index (index_in_range (get_or ns x 0) (eval_interval ns w a).intervals) q
  where
    by_index : (is : List PlainInterval) → if_index is (eval_interval ns w e).intervals ≡ [] → unreached ≡ stored w x is (eval_interval ns w e).intervals
    by_index [] p = refl
    by_index (i ∷ is) p = rw p refl

store_faults : (ns : List ℕ) (x : ℕ) (a e : Expr) (h : Abstract) →
    (store_result (get_or ns x 0) (eval_here ns h a) (eval_here ns h e)).faults ≡ store_faults_here ns x a e h
unfolding faults_in
store_faults ns x a e unreached = refl
store_faults ns x a e (reached w) = refl

-- a check's faults, by whether its test can fail
pub never_fails : (ns : List ℕ) (t : Test) (h : Abstract) (f : Faults) → unreached ≡ assume_here ns false t h → Faulty f (faults_here ns t h) → Faulty f (check_faults_here ns t h)
unfolding within
never_fails ns t h f e faults = rw (← e, append-nil (faults_here ns t h)) faults

pub can_fail : (ns : List ℕ) (t : Test) (h : Abstract) (w : Env) (f g : Faults) → reached w ≡ assume_here ns false t h → Faulty f (faults_here ns t h) → Faulty g (4 ∷ []) →
    Faulty (faults_or f g) (check_faults_here ns t h)
unfolding within
can_fail ns t h w f g e faults four = rw (← e) (faulty_or f g (faults_here ns t h) (4 ∷ []) faults four)

module _ (ns ms : List ℕ) (n : ℕ) (text : List ℕ) (pos left : ℕ) (d : Stmt) (ready : StmtReady text pos left d) where
  pub assign_number : (s : AssignAt text pos d) → Low s.p
  unfolding stmt_numbers
  assign_number s = (subst (λ (x : Stmt). Rattle.std.specs.List.AllByRecursion Low (stmt_numbers x)) s.is ready.low).0

  -- an assignment whose expression has the result r; h₁ is the state behind it
  assign_by : (s : AssignAt text pos d) (h h₁ : Abstract) (t t₁ : List ℕ) (stmt : ℕ) (f : Faults) (r : ℕ) →
      (pos + 1 + 8 ≤ length text → stmt ≡ word_at text (pos + 1)) → h₁ ≡ assign_here ns s.v s.e h → Faulty f (eval_here ns h s.e).faults →
      ((ks : List ℕ) → Faulty f ks → Marked (alarms_at stmt ks) t t₁) → r ≡ pos + 10 + length (encode_expr s.e) →
      Walked (pos + length (encode_stmt d)) ns ms n h t h₁ t₁ d r
  assign_by s h h₁ t t₁ stmt f r number out faults marks end =
      let p-is : stmt ≡ s.p = number_is text pos s.p stmt s.number (assign_number s) number in
      let m = subst (λ (p : ℕ). Marked (alarms_at p (expr_faults_here ns s.e h)) t t₁) p-is (marks _ (subst (Faulty f) (found_faults ns s.e h) faults)) in
      subst (λ (x : Stmt). Walked (pos + length (encode_stmt d)) ns ms n h t h₁ t₁ x r) (sym s.is)
      (walked_assign ns ms n (pos + length (encode_stmt d)) s.p s.v s.e h h₁ t t₁ r out m (omega (arith, end, s.long)))

  pub assign_value_walked : (s : AssignAt text pos d) (h h₁ : Abstract) (t t₁ : List ℕ) (stmt x : ℕ) (r : Evaluated) (i : Interval) →
      (pos + 1 + 8 ≤ length text → stmt ≡ word_at text (pos + 1)) → x ≡ get_or text (pos + 9) 0 →
      Evaluates (pos + 10 + length (encode_expr s.e)) (eval_here ns h s.e) r → r.result.interval ≡ Some i → h₁ ≡ put_in h x (as_interval i) →
      ((ks : List ℕ) → Faulty r.result.faults ks → Marked (alarms_at stmt ks) t t₁) → Walked (pos + length (encode_stmt d)) ns ms n h t h₁ t₁ d r.end
  assign_value_walked s h h₁ t t₁ stmt x r i number at_x found is out marks =
      let there = found.result.intervals ∙ ap as_intervals is in
      assign_by s h h₁ t t₁ stmt r.result.faults r.end number
      (out ∙ ap (λ (y : ℕ). put_in h y (as_interval i)) (at_x ∙ s.v_is) ∙ put_value ns s.v s.e h (as_interval i) there) found.result.faults marks found.end

  pub assign_never_walked : (s : AssignAt text pos d) (h : Abstract) (t t₁ : List ℕ) (stmt : ℕ) (r : Evaluated) →
      (pos + 1 + 8 ≤ length text → stmt ≡ word_at text (pos + 1)) →
      Evaluates (pos + 10 + length (encode_expr s.e)) (eval_here ns h s.e) r → r.result.interval ≡ None →
      ((ks : List ℕ) → Faulty r.result.faults ks → Marked (alarms_at stmt ks) t t₁) → Walked (pos + length (encode_stmt d)) ns ms n h t unreached t₁ d r.end
  assign_never_walked s h t t₁ stmt r number found is marks =
      assign_by s h unreached t t₁ stmt r.result.faults r.end number (put_nothing ns s.v s.e h (found.result.intervals ∙ ap as_intervals is))
      found.result.faults marks found.end

  pub store_number : (s : StoreAt text pos d) → Low s.p
  unfolding stmt_numbers
  store_number s = (subst (λ (x : Stmt). Rattle.std.specs.List.AllByRecursion Low (stmt_numbers x)) s.is ready.low).0

  -- a store of what its index and value come to together
  store_by : (s : StoreAt text pos d) (h h₁ : Abstract) (t t₁ : List ℕ) (stmt : ℕ) (f : Faults) (r : ℕ) →
      (pos + 1 + 8 ≤ length text → stmt ≡ word_at text (pos + 1)) → h₁ ≡ store_here ns s.r s.a s.e h →
      Faulty f (store_result (get_or ns s.r 0) (eval_here ns h s.a) (eval_here ns h s.e)).faults →
      ((ks : List ℕ) → Faulty f ks → Marked (alarms_at stmt ks) t t₁) → r ≡ pos + 10 + length (encode_expr s.a) + length (encode_expr s.e) →
      Walked (pos + length (encode_stmt d)) ns ms n h t h₁ t₁ d r
  store_by s h h₁ t t₁ stmt f r number out faults marks end =
      let p-is : stmt ≡ s.p = number_is text pos s.p stmt s.number (store_number s) number in
      let m = subst (λ (p : ℕ). Marked (alarms_at p (store_faults_here ns s.r s.a s.e h)) t t₁) p-is (marks _ (subst (Faulty f) (store_faults ns s.r s.a s.e h) faults)) in
      subst (λ (x : Stmt). Walked (pos + length (encode_stmt d)) ns ms n h t h₁ t₁ x r) (sym s.is)
      (walked_store ns ms n (pos + length (encode_stmt d)) s.p s.r s.a s.e h h₁ t t₁ r out m (omega (arith, end, s.long)))

  pub store_value_walked : (s : StoreAt text pos d) (h h₁ : Abstract) (t t₁ : List ℕ) (stmt x r : ℕ) (y : EvalResult) (i : Interval) →
      (pos + 1 + 8 ≤ length text → stmt ≡ word_at text (pos + 1)) → x ≡ s.r →
      Says y (store_result (get_or ns s.r 0) (eval_here ns h s.a) (eval_here ns h s.e)) → y.interval ≡ Some i → h₁ ≡ store_in h x (as_interval i) →
      ((ks : List ℕ) → Faulty y.faults ks → Marked (alarms_at stmt ks) t t₁) → r ≡ pos + 10 + length (encode_expr s.a) + length (encode_expr s.e) →
      Walked (pos + length (encode_stmt d)) ns ms n h t h₁ t₁ d r
  store_value_walked s h h₁ t t₁ stmt x r y i number at_x found is out marks end =
      store_by s h h₁ t t₁ stmt y.faults r number
      (out ∙ ap (λ (z : ℕ). store_in h z (as_interval i)) at_x
      ∙ store_value_in ns s.r s.a s.e h (as_interval i) (found.intervals ∙ ap as_intervals is)) found.faults marks end

  pub store_never_walked : (s : StoreAt text pos d) (h : Abstract) (t t₁ : List ℕ) (stmt r : ℕ) (y : EvalResult) →
      (pos + 1 + 8 ≤ length text → stmt ≡ word_at text (pos + 1)) →
      Says y (store_result (get_or ns s.r 0) (eval_here ns h s.a) (eval_here ns h s.e)) → y.interval ≡ None →
      ((ks : List ℕ) → Faulty y.faults ks → Marked (alarms_at stmt ks) t t₁) → r ≡ pos + 10 + length (encode_expr s.a) + length (encode_expr s.e) →
      Walked (pos + length (encode_stmt d)) ns ms n h t unreached t₁ d r
  store_never_walked s h t t₁ stmt r y number found is marks end =
      store_by s h unreached t t₁ stmt y.faults r number (store_nothing_in ns s.r s.a s.e h (found.intervals ∙ ap as_intervals is)) found.faults marks end

  -- what the index and the value come to together, from what was found of each
  pub store_found : (s : StoreAt text pos d) (h : Abstract) (x len : ℕ) (i v y : EvalResult) → x ≡ get_or text (pos + 9) 0 → len ≡ get_or ns x 0 →
      Says i (eval_here ns h s.a) → Says v (eval_here ns h s.e) → ((j w : PlainResult) → Says i j → Says v w → Says y (store_result len j w)) →
      Says y (store_result (get_or ns s.r 0) (eval_here ns h s.a) (eval_here ns h s.e))
  store_found s h x len i v y at_x is a b together =
      subst (λ (m : ℕ). Says y (store_result m (eval_here ns h s.a) (eval_here ns h s.e))) (is ∙ ap (λ (z : ℕ). get_or ns z 0) (at_x ∙ s.r_is))
      (together (eval_here ns h s.a) (eval_here ns h s.e) a b)

  -- an input's range, as it was read
  pub input_range : (s : InputAt text pos d) (lo hi : ℕ) → (pos + 10 + 8 ≤ length text → lo ≡ word_at text (pos + 10)) → (pos + 18 + 8 ≤ length text → hi ≡ word_at text (pos + 18)) →
      (lo ≡ s.a) × (hi ≡ s.b) × (lo ≤ hi) × (hi < limit)
  unfolding valid_stmt
  input_range s lo hi low high =
      let v = and_parts (ltb s.v ready.variables) _ (subst (λ (x : Stmt). valid_stmt ready.variables ready.arrays x ≡ true) s.is ready.valid) in
      let w = and_parts (leb s.a s.b) (ltb s.b limit) v.1 in
      let a≤b : s.a ≤ s.b = leb-true s.a s.b w.0 in
      let b< : s.b < limit = ltb-true s.b limit w.1 in
      let in-a : pos + 10 + 8 ≤ length text = rw length_eight at (stands_inside text (pos + 10) (eight s.a) (rw length_eight (omega arith)) s.low) in
      let in_b : pos + 18 + 8 ≤ length text = rw length_eight at (stands_inside text (pos + 18) (eight s.b) (rw length_eight (omega arith)) s.high) in
      let a-is : lo ≡ s.a = low in-a ∙ sym (eight_stands text (pos + 10) s.a s.low (omega arith)) in
      let b-is : hi ≡ s.b = high in_b ∙ sym (eight_stands text (pos + 18) s.b s.high (omega arith)) in
      (a-is, b-is, omega arith, omega arith)

  pub input_walked : (s : InputAt text pos d) (h h₁ : Abstract) (t : List ℕ) (x lo hi r : ℕ) → lo ≡ s.a → hi ≡ s.b → lo ≤ hi → x ≡ get_or text (pos + 9) 0 →
      h₁ ≡ put_in h x (interval lo hi) → r ≡ pos + 26 → Walked (pos + length (encode_stmt d)) ns ms n h t h₁ t d r
  input_walked s h h₁ t x lo hi r a-is b-is ordered at_x out end =
      subst (λ (y : Stmt). Walked (pos + length (encode_stmt d)) ns ms n h t h₁ t y r) (sym s.is)
      (walked_input ns ms n (pos + length (encode_stmt d)) s.p s.v s.a s.b h h₁ t r
      (out ∙ put_input h x s.v lo hi s.a s.b (at_x ∙ s.v_is) a-is b-is ordered) (omega (arith, end, s.long)))

  pub check_number : (s : CheckAt text pos d) → Low s.p
  unfolding stmt_numbers
  check_number s = (subst (λ (x : Stmt). Rattle.std.specs.List.AllByRecursion Low (stmt_numbers x)) s.is ready.low).0

  pub check_walked : (s : CheckAt text pos d) (h h₁ : Abstract) (t t₁ : List ℕ) (stmt : ℕ) (f : Faults) (r : ℕ) →
      (pos + 1 + 8 ≤ length text → stmt ≡ word_at text (pos + 1)) → h₁ ≡ assume_here ns true s.t h → Faulty f (check_faults_here ns s.t h) →
      ((ks : List ℕ) → Faulty f ks → Marked (alarms_at stmt ks) t t₁) → r ≡ pos + 9 + length (encode_test s.t) →
      Walked (pos + length (encode_stmt d)) ns ms n h t h₁ t₁ d r
  check_walked s h h₁ t t₁ stmt f r number out faults marks end =
      let p-is : stmt ≡ s.p = number_is text pos s.p stmt s.number (check_number s) number in
      let m = subst (λ (p : ℕ). Marked (alarms_at p (check_faults_here ns s.t h)) t t₁) p-is (marks _ faults) in
      subst (λ (x : Stmt). Walked (pos + length (encode_stmt d)) ns ms n h t h₁ t₁ x r) (sym s.is)
      (walked_check ns ms n (pos + length (encode_stmt d)) s.p s.t h h₁ t t₁ r out m (omega (arith, end, s.long)))
