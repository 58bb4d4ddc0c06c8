-- The analysis with sorted thresholds is the analysis with a program's own. Rests on what does not depend on the order of thresholds.
use Rattle.std.proofs.Common.{◌≡◌, ℕ, List, take, sym}
use Rattle.program.specs.Syntax.{Stmt, Program}
use Rattle.analysis.specs.AbstractState.{Abstract}
use Rattle.analysis.specs.Analyser.{analyse}
use Rattle.analysis.specs.Thresholds.{thresholds}
use Rattle.analysis.proofs.SameThresholds.{analyse_same}
use Rattle.thresholds.specs.Collecting.{Sorted}
use Rattle.thresholds.proofs.Nearest.{above_shuffled, below_shuffled}

pub analyse_sorted : (p : Program) (table table₁ : List ℕ) (r : ℕ) → Sorted (thresholds p) table table₁ r →
    (ns : List ℕ) (n : ℕ) (d : Stmt) (h : Abstract) → analyse ns (take r table₁) n d h ≡ analyse ns (thresholds p) n d h
analyse_sorted p table table₁ r s ns n d h =
    analyse_same ns (take r table₁) (thresholds p) (λ m. sym (above_shuffled m (thresholds p) (take r table₁) s.shuffled)) (λ m. sym (below_shuffled m (thresholds p) (take r table₁) s.shuffled)) n d h
