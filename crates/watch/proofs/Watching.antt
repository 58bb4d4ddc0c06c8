-- A watched pass through a statement from passes through its parts. Rests on the analyser's clauses.
use Rattle.std.proofs.Common.{◌≡◌, ℕ, zero, suc, ◌+◌, arith, true, false, List, [], ◌∷◌, sym, refl, ap, ◌∙◌, subst}
use Rattle.std.specs.List.{AllByRecursion as All}
use Rattle.program.specs.Validity.{stmt_numbers}
use Rattle.program.specs.Basics.{eight}
use Rattle.encoding.specs.Standing.{Stands}
use Rattle.encoding.specs.Parts.{StmtAt}
use Rattle.walker.specs.Ready.{Low, StmtReady, HasNoParts}
use Rattle.program.specs.Syntax.{Test, Stmt, skip, assign, store, input, check, seq, branch, loop}
use Rattle.analysis.specs.Reach.{Analysis}
use Rattle.analysis.specs.AbstractState.{Env, Abstract, join}
use Rattle.analysis.specs.Iteration.{iterate}
use Rattle.analysis.specs.Analyser.{analyse}
use Rattle.analysis.specs.Clauses.{assume_here, one_round}
use Rattle.analysis.proofs.Clauses.{analyse_branch, analyse_loop}
use Rattle.watch.specs.Watch.{noted, watch, Watched, Simple}

module _ (ns ms : List ℕ) (n k : ℕ) where
  pub watched_skip : (stop : ℕ) (h s : Abstract) (r : ℕ) → r ≡ stop → Watched stop ns ms n k h s h s skip r
  unfolding analyse watch
  watched_skip stop h s r e = record { out = refl; seen = refl; end = e }

  pub watched_seq : (mid stop : ℕ) (a b : Stmt) (h s h₁ s₁ h₂ s₂ : Abstract) (m r : ℕ) →
      Watched mid ns ms n k h s h₁ s₁ a m → Watched stop ns ms n k h₁ s₁ h₂ s₂ b r → Watched stop ns ms n k h s h₂ s₂ (seq a b) r
  unfolding analyse watch
  watched_seq mid stop a b h s h₁ s₁ h₂ s₂ m r p q =
      record {
        out = q.out ∙ ap (λ x. (analyse ns ms n b x).out) p.out;
        seen = q.seen ∙ (λ i. watch ns ms n k b (p.out i) (p.seen i));
        end = q.end;
      }

  pub watched_branch : (mid stop p : ℕ) (c : Test) (a b : Stmt) (h s s₀ y s₁ z s₂ h₁ : Abstract) (m r : ℕ) → s₀ ≡ noted k p h s →
      Watched mid ns ms n k (assume_here ns true c h) s₀ y s₁ a m → Watched stop ns ms n k (assume_here ns false c h) s₁ z s₂ b r → h₁ ≡ join y z →
      Watched stop ns ms n k h s h₁ s₂ (branch p c a b) r
  unfolding watch
  watched_branch mid stop p c a b h s s₀ y s₁ z s₂ h₁ m r o u v e =
      record {
        out = e ∙ (λ i. join (u.out i) (v.out i)) ∙ sym (ap (λ (x : Analysis Env). x.out) (analyse_branch ns ms n p c a b h));
        seen = v.seen ∙ ap (λ (x : Abstract). watch ns ms n k b (assume_here ns false c h) x) (u.seen ∙ ap (λ (x : Abstract). watch ns ms n k a (assume_here ns true c h) x) o);
        end = v.end;
      }

  pub watched_loop : (stop p : ℕ) (c : Test) (a : Stmt) (h s inv s₀ y s₁ h₁ : Abstract) (r : ℕ) → inv ≡ iterate ms 4 n (one_round ns ms n c a h) h →
      s₀ ≡ noted k p inv s → Watched stop ns ms n k (assume_here ns true c inv) s₀ y s₁ a r → h₁ ≡ assume_here ns false c inv →
      Watched stop ns ms n k h s h₁ s₁ (loop p c a) r
  unfolding watch
  watched_loop stop p c a h s inv s₀ y s₁ h₁ r i o u e =
      record {
        out = e ∙ sym (ap (λ (x : Analysis Env). x.out) (analyse_loop ns ms n p c a h inv i));
        seen = u.seen ∙ ap (λ (x : Abstract). watch ns ms n k a (assume_here ns true c inv) x) o
            ∙ ap (λ (g : Abstract). watch ns ms n k a (assume_here ns true c g) (noted k p g s)) i;
        end = u.end;
      }

  -- the same pass by another name of its start and its end
  pub watched_at : (stop stop₁ : ℕ) (h g s h₁ s₁ : Abstract) (d : Stmt) (r : ℕ) → stop ≡ stop₁ → h ≡ g →
      Watched stop ns ms n k h s h₁ s₁ d r → Watched stop₁ ns ms n k g s h₁ s₁ d r
  watched_at stop stop₁ h g s h₁ s₁ d r e q w =
      subst (λ (x : ℕ). Watched x ns ms n k g s h₁ s₁ d r) e (subst (λ (x : Abstract). Watched stop ns ms n k x s h₁ s₁ d r) q w)

  -- the same pass through the same statement in another form
  pub watched_as : (stop : ℕ) (h s h₁ s₁ : Abstract) (d e : Stmt) (r : ℕ) → d ≡ e → Watched stop ns ms n k h s h₁ s₁ e r → Watched stop ns ms n k h s h₁ s₁ d r
  watched_as stop h s h₁ s₁ d e r q w = subst (λ (x : Stmt). Watched stop ns ms n k h s h₁ s₁ x r) (sym q) w

-- the number of a statement that has one number can be told from its eight bytes
pub only_number : (text : List ℕ) (pos left : ℕ) (d e : Stmt) (p : ℕ) → StmtReady text pos left d → d ≡ e → stmt_numbers e ≡ p ∷ [] → Low p
only_number text pos left d e p ready is one = (subst (λ (ps : List ℕ). All Low ps) one (subst (λ (x : Stmt). All Low (stmt_numbers x)) is ready.low)).0

-- what a statement without parts is: its number stands behind its first byte, and watching it is noting that number
pub record Noted (text : List ℕ) (ns ms : List ℕ) (n k pos : ℕ) (d : Stmt) : Type 0 where
  pub p : ℕ
  pub number : Stands text (pos + 1) (eight p)
  pub low : Low p
  pub simple : Simple ns ms n k p d

module _ (text ns ms : List ℕ) (n k pos left : ℕ) (d : Stmt) (h : StmtReady text pos left d) where
  noted_as : (p : ℕ) (e : Stmt) → Stands text (pos + 1) (eight p) → d ≡ e → stmt_numbers e ≡ p ∷ [] → Simple ns ms n k p e → Noted text ns ms n k pos d
  noted_as p e number is one simple =
      record { p = p; number = number; low = only_number text pos left d e p h is one; simple = subst (λ (x : Stmt). Simple ns ms n k p x) (sym is) simple }

  pub noted_by : (tag : ℕ) → StmtAt tag text pos d → HasNoParts tag → Noted text ns ms n k pos d
  unfolding watch stmt_numbers
  noted_by zero s parts = absurd (omega (arith, parts.0))
  noted_by (suc zero) s parts = noted_as s.p (assign s.p s.v s.e) s.number s.is refl (λ g seen. refl)
  noted_by (suc (suc zero)) s parts = noted_as s.p (store s.p s.r s.a s.e) s.number s.is refl (λ g seen. refl)
  noted_by (suc (suc (suc zero))) s parts = noted_as s.p (input s.p s.v s.a s.b) s.number s.is refl (λ g seen. refl)
  noted_by (suc (suc (suc (suc zero)))) s parts = noted_as s.p (check s.p s.t) s.number s.is refl (λ g seen. refl)
  noted_by (suc (suc (suc (suc (suc tag))))) s parts = absurd (omega (arith, parts.1))
