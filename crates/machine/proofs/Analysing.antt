-- A loaded program's analysis and the memory of what was found: from what the parts of the code leave to the program's memory.
-- Rests on model's memory of a program and on the task of a loaded program.
use Rattle.std.proofs.Common.{◌≡◌, ℕ, List, replicate, sym, refl, ap, ◌∙◌, subst}
use Rattle.analysis.specs.Reach.{reached}
use Rattle.analysis.specs.AbstractState.{Abstract}
use Rattle.analysis.specs.Analyser.{analyse}
use Rattle.analysis.specs.Thresholds.{thresholds}
use Rattle.analysis.specs.Whole.{round_limit}
use Rattle.program.specs.Syntax.{Stmt}
use Rattle.model.specs.Memory.{slots, zeros, memory_with, laid}
use Rattle.model.proofs.Laid.{laid_is}
use Rattle.state.specs.Change.{initial_env}
use Rattle.reader.specs.declared.load.Header.{Header}
use Rattle.reader.specs.Request.{Loads}
use Rattle.task.specs.Task.{TaskOf}
use Rattle.task.proofs.Loaded.{loads_valid}
use Rattle.thresholds.proofs.Nearest.{above_shuffled, below_shuffled}
use Rattle.walker.specs.declared.types.Task.{Task}
use Rattle.walker.specs.Walk.{Walked}
use Rattle.walker.specs.Table.{Marked}
use Rattle.machine.specs.Loading.{BodyAnalysed}

-- a pass from all 0
pub from_initial : (stop : ℕ) (ns ms : List ℕ) (n : ℕ) (h h₁ : Abstract) (t t₁ : List ℕ) (d : Stmt) (r : ℕ) → h ≡ reached initial_env →
    Walked stop ns ms n h t h₁ t₁ d r → BodyAnalysed ns ms n d h₁ t t₁
from_initial stop ns ms n h h₁ t t₁ d r e w =
    record {
      out = w.out ∙ ap (λ (g : Abstract). (analyse ns ms n d g).out) e;
      alarms = subst (λ (g : Abstract). Marked (analyse ns ms n d g).alarms t t₁) e w.alarms;
    }

-- the memory of what the analysis by its task left is the program's
pub load_lays : (text : List ℕ) (h : Header) (l : Loads text h) (t : Task) (t₀ t₁ m : List ℕ) (s : Abstract) → TaskOf l.program text t → t₀ ≡ zeros slots →
    BodyAnalysed t.lengths.now t.thresholds.now t.rounds l.program.body s t₀ t₁ → m ≡ memory_with 0 h.vars s t₁ → m ≡ laid 0 l.program
load_lays text h l t t₀ t₁ m s o z b e =
    let p = l.program in
    let ts = thresholds p in
    let ms = t.thresholds.now in
    let counted = subst (λ (k : ℕ). BodyAnalysed t.lengths.now ms k p.body s t₀ t₁) o.rounds b in
    let same = subst (λ (ks : List ℕ). BodyAnalysed ks ms (round_limit p) p.body s t₀ t₁) o.lengths counted in
    e ∙ ap (λ (v : ℕ). memory_with 0 v s t₁) l.vars
    ∙ laid_is p ms t₁ t₀ s (loads_valid text h l) (λ k. sym (above_shuffled k ts ms o.shuffled)) (λ k. sym (below_shuffled k ts ms o.shuffled))
    same.out z same.alarms.long same.alarms.each_is

-- a list of zeros by the library's name
pub cleared : (n : ℕ) → replicate n 0 ≡ zeros n
unfolding zeros
cleared n = refl
