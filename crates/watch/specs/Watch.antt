-- What is known where a statement begins: the states that the plain analyser has there in its last pass, joined. Assumes nothing: these are
-- definitions.
use Rattle.std.specs.Prelude.{◌≡◌, ℕ, true, false, cond, List, ◌==◌}
use Rattle.program.specs.Syntax.{Stmt, skip, assign, store, input, check, seq, branch, loop}
use Rattle.analysis.specs.AbstractState.{Abstract, join}
use Rattle.analysis.specs.Iteration.{iterate}
use Rattle.analysis.specs.Analyser.{analyse}
use Rattle.analysis.specs.Clauses.{assume_here, one_round}

-- what was seen, with the state h in which statement p begins, if p is the one that is watched
abbrev pub noted : ℕ → ℕ → Abstract → Abstract → Abstract
noted k p h s = cond (p == k) (join s h) s

-- what was seen of statement k, with what a pass through a statement from h on sees of it; at a loop the last state counts
unfoldable pub watch : List ℕ → List ℕ → ℕ → ℕ → Stmt → Abstract → Abstract → Abstract
watch ns ms n k skip h s = s
watch ns ms n k (assign p x e) h s = noted k p h s
watch ns ms n k (store p r a e) h s = noted k p h s
watch ns ms n k (input p x a b) h s = noted k p h s
watch ns ms n k (check p t) h s = noted k p h s
watch ns ms n k (seq a b) h s = watch ns ms n k b (analyse ns ms n a h).out (watch ns ms n k a h s)
watch ns ms n k (branch p t a b) h s = watch ns ms n k b (assume_here ns false t h) (watch ns ms n k a (assume_here ns true t h) (noted k p h s))
watch ns ms n k (loop p t a) h s =
    (λ (inv : Abstract). watch ns ms n k a (assume_here ns true t inv) (noted k p inv s)) (iterate ms 4 n (one_round ns ms n t a h) h)

-- from state h, with s seen, to h₁ and s₁, by statement d, which ends at stop
pub record Watched (stop : ℕ) (ns ms : List ℕ) (n k : ℕ) (h s h₁ s₁ : Abstract) (d : Stmt) (r : ℕ) : Type 0 where
  pub out : h₁ ≡ (analyse ns ms n d h).out
  pub seen : s₁ ≡ watch ns ms n k d h s
  pub end : r ≡ stop

-- a statement without parts, whose number is p
abbrev pub Simple : List ℕ → List ℕ → ℕ → ℕ → ℕ → Stmt → Type 0
Simple ns ms n k p d = (h s : Abstract) → watch ns ms n k d h s ≡ noted k p h s
