-- A pass through a statement from passes through its parts.
use Rattle.std.proofs.Common.{◌≡◌, ℕ, true, false, List, length, sym, refl, ap, ◌∙◌, subst}
use Rattle.program.specs.Syntax.{Expr, Test, Stmt, skip, assign, store, input, check, seq, branch, loop}
use Rattle.analysis.specs.Reach.{Analysis, alarms_at}
use Rattle.analysis.specs.AbstractState.{Env, Abstract, join}
use Rattle.analysis.specs.Iteration.{iterate}
use Rattle.analysis.specs.Analyser.{analyse}
use Rattle.analysis.specs.Clauses.{assume_here, faults_here, assign_here, expr_faults_here, store_here, store_faults_here, input_here, check_faults_here, one_round}
use Rattle.analysis.proofs.Clauses.{analyse_assign, analyse_store, analyse_input, analyse_check, analyse_branch, analyse_loop}
use Rattle.walker.specs.Table.{Marked}
use Rattle.walker.specs.Walk.{Walked}
use Rattle.walker.proofs.Marking.{marked_none, marked_two, marked_empty}

module _ (ns ms : List ℕ) (n : ℕ) where
  pub walked_skip : (stop : ℕ) (h : Abstract) (t : List ℕ) (r : ℕ) → r ≡ stop → Walked stop ns ms n h t h t skip r
  unfolding analyse
  walked_skip stop h t r e = record { out = refl; alarms = marked_none t; end = e }

  pub walked_seq : (mid stop : ℕ) (a b : Stmt) (h h₁ h₂ : Abstract) (t t₁ t₂ : List ℕ) (m r : ℕ) →
      Walked mid ns ms n h t h₁ t₁ a m → Walked stop ns ms n h₁ t₁ h₂ t₂ b r → Walked stop ns ms n h t h₂ t₂ (seq a b) r
  unfolding analyse
  walked_seq mid stop a b h h₁ h₂ t t₁ t₂ m r p q =
      record {
        out = q.out ∙ ap (λ x. (analyse ns ms n b x).out) p.out;
        alarms = marked_two (analyse ns ms n a h).alarms (analyse ns ms n b (analyse ns ms n a h).out).alarms t t₁ t₂ p.alarms
            (subst (λ x. Marked (analyse ns ms n b x).alarms t₁ t₂) p.out q.alarms);
        end = q.end;
      }

  -- from what the analysis is known to be
  walked_by : (stop : ℕ) (d : Stmt) (x : Analysis Env) (h h₁ : Abstract) (t t₁ : List ℕ) (r : ℕ) → analyse ns ms n d h ≡ x →
      h₁ ≡ x.out → Marked x.alarms t t₁ → r ≡ stop → Walked stop ns ms n h t h₁ t₁ d r
  walked_by stop d x h h₁ t t₁ r q o m e =
      record { out = o ∙ sym (ap (λ (y : Analysis Env). y.out) q); alarms = subst (λ (y : Analysis Env). Marked y.alarms t t₁) (sym q) m; end = e }

  pub walked_assign : (stop p x : ℕ) (e : Expr) (h h₁ : Abstract) (t t₁ : List ℕ) (r : ℕ) →
      h₁ ≡ assign_here ns x e h → Marked (alarms_at p (expr_faults_here ns e h)) t t₁ → r ≡ stop → Walked stop ns ms n h t h₁ t₁ (assign p x e) r
  walked_assign stop p x e h h₁ t t₁ r o m q = walked_by stop _ _ h h₁ t t₁ r (analyse_assign ns ms n p x e h) o m q

  pub walked_store : (stop p x : ℕ) (a e : Expr) (h h₁ : Abstract) (t t₁ : List ℕ) (r : ℕ) →
      h₁ ≡ store_here ns x a e h → Marked (alarms_at p (store_faults_here ns x a e h)) t t₁ → r ≡ stop → Walked stop ns ms n h t h₁ t₁ (store p x a e) r
  walked_store stop p x a e h h₁ t t₁ r o m q = walked_by stop _ _ h h₁ t t₁ r (analyse_store ns ms n p x a e h) o m q

  pub walked_input : (stop p x a b : ℕ) (h h₁ : Abstract) (t : List ℕ) (r : ℕ) →
      h₁ ≡ input_here x a b h → r ≡ stop → Walked stop ns ms n h t h₁ t (input p x a b) r
  walked_input stop p x a b h h₁ t r o q = walked_by stop _ _ h h₁ t t r (analyse_input ns ms n p x a b h) o (marked_none t) q

  pub walked_check : (stop p : ℕ) (c : Test) (h h₁ : Abstract) (t t₁ : List ℕ) (r : ℕ) →
      h₁ ≡ assume_here ns true c h → Marked (alarms_at p (check_faults_here ns c h)) t t₁ → r ≡ stop → Walked stop ns ms n h t h₁ t₁ (check p c) r
  walked_check stop p c h h₁ t t₁ r o m q = walked_by stop _ _ h h₁ t t₁ r (analyse_check ns ms n p c h) o m q

  pub walked_branch : (mid stop p : ℕ) (c : Test) (a b : Stmt) (h y z h₁ : Abstract) (t t₁ t₂ t₃ : List ℕ) (m r : ℕ) →
      Marked (alarms_at p (faults_here ns c h)) t t₁ → Walked mid ns ms n (assume_here ns true c h) t₁ y t₂ a m → Walked stop ns ms n (assume_here ns false c h) t₂ z t₃ b r →
      h₁ ≡ join y z → Walked stop ns ms n h t h₁ t₃ (branch p c a b) r
  walked_branch mid stop p c a b h y z h₁ t t₁ t₂ t₃ m r f u v e =
      walked_by stop (branch p c a b) _ h h₁ t t₃ r (analyse_branch ns ms n p c a b h)
      (e ∙ ap (λ (x : Abstract). join x z) u.out ∙ ap (λ (x : Abstract). join (analyse ns ms n a (assume_here ns true c h)).out x) v.out)
      (marked_two (alarms_at p (faults_here ns c h)) _ t t₁ t₃ f (marked_two _ _ t₁ t₂ t₃ u.alarms v.alarms)) v.end

  pub walked_loop : (stop p : ℕ) (c : Test) (a : Stmt) (h inv y h₁ : Abstract) (t t₁ t₂ : List ℕ) (r : ℕ) →
      inv ≡ iterate ms 4 n (one_round ns ms n c a h) h → Marked (alarms_at p (faults_here ns c inv)) t t₁ → Walked stop ns ms n (assume_here ns true c inv) t₁ y t₂ a r →
      h₁ ≡ assume_here ns false c inv → Walked stop ns ms n h t h₁ t₂ (loop p c a) r
  walked_loop stop p c a h inv y h₁ t t₁ t₂ r i f u e =
      walked_by stop (loop p c a) _ h h₁ t t₂ r (analyse_loop ns ms n p c a h inv i) e
      (marked_two (alarms_at p (faults_here ns c inv)) _ t t₁ t₂ f u.alarms) u.end

  -- with recording off the body is not gone through once more
  pub walked_quiet : (stop p : ℕ) (c : Test) (a : Stmt) (h inv h₁ : Abstract) (t : List ℕ) (r : ℕ) →
      inv ≡ iterate ms 4 n (one_round ns ms n c a h) h → length t ≡ 0 → h₁ ≡ assume_here ns false c inv → r ≡ stop → Walked stop ns ms n h t h₁ t (loop p c a) r
  walked_quiet stop p c a h inv h₁ t r i o e q =
      walked_by stop (loop p c a) _ h h₁ t t r (analyse_loop ns ms n p c a h inv i) e (marked_empty _ t o) q

  -- the same pass by another name of its start and its end
  pub walked_at : (stop stop₁ : ℕ) (h g h₁ : Abstract) (t t₁ : List ℕ) (d : Stmt) (r : ℕ) → stop ≡ stop₁ → h ≡ g →
      Walked stop ns ms n h t h₁ t₁ d r → Walked stop₁ ns ms n g t h₁ t₁ d r
  walked_at stop stop₁ h g h₁ t t₁ d r e q w =
      subst (λ (s : ℕ). Walked s ns ms n g t h₁ t₁ d r) e (subst (λ (x : Abstract). Walked stop ns ms n x t h₁ t₁ d r) q w)

  -- the same pass through the same statement in another form
  pub walked_as : (stop : ℕ) (h h₁ : Abstract) (t t₁ : List ℕ) (d e : Stmt) (r : ℕ) → d ≡ e → Walked stop ns ms n h t h₁ t₁ e r → Walked stop ns ms n h t h₁ t₁ d r
  walked_as stop h h₁ t t₁ d e r q w = subst (λ (x : Stmt). Walked stop ns ms n h t h₁ t₁ x r) (sym q) w
