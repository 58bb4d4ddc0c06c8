-- What is seen by a program's task is what is known of the program. Rests on the task of a loaded program and on the watched pass.
use Rattle.std.proofs.Common.{◌≡◌, ℕ, ◌+◌, List, length, get_or, Some, sym, refl, ap, ◌∙◌, arith}
use Rattle.std.specs.List.Sorted.{IsNonDecreasing}
use Rattle.program.specs.Syntax.{Stmt, Program}
use Rattle.program.specs.Command.{load, all_alarms, at_end, encode}
use Rattle.program.specs.Encoding.{encode_stmt}
use Rattle.analysis.specs.Reach.{unreached, reached}
use Rattle.analysis.specs.AbstractState.{Abstract}
use Rattle.analysis.specs.Thresholds.{thresholds}
use Rattle.analysis.specs.Whole.{round_limit}
use Rattle.reader.specs.declared.load.Header.{Header}
use Rattle.reader.specs.declared.Request.{Request}
use Rattle.reader.specs.declared.Request.TheVariants.{Load, Alarms, AtEnd}
use Rattle.reader.specs.Request.{EncodingOf, Loads, Reads}
use Rattle.state.specs.Change.{initial_env}
use Rattle.task.specs.Task.{TaskOf}
use Rattle.task.proofs.Loaded.{task_ready}
use Rattle.thresholds.proofs.Nearest.{above_shuffled, below_shuffled}
use Rattle.walker.specs.declared.types.Task.{Task}
use Rattle.walker.specs.Ready.{StmtReady}
use Rattle.watch.specs.Watch.{watch, Watched}
use Rattle.watch.proofs.SameThresholds.{watch_same}
use Rattle.known.specs.Known.{known_before}

pub known_found : (text : List ℕ) (h : Header) (l : Loads text h) (t : Task) (k : ℕ) (h₀ s₀ h₁ s₁ : Abstract) (r : ℕ) → TaskOf l.program text t →
    h₀ ≡ reached initial_env → s₀ ≡ unreached →
    ((d : Stmt) → IsNonDecreasing t.thresholds.now → StmtReady t.text.now h.body (length t.text.now) d →
    Watched (h.body + length (encode_stmt d)) t.lengths.now t.thresholds.now t.rounds k h₀ s₀ h₁ s₁ d r) →
    s₁ ≡ known_before l.program k
known_found text h l t k h₀ s₀ h₁ s₁ r o e-state e-seen watched =
    let p = l.program in
    let ms = t.thresholds.now in
    (watched p.body o.rising (task_ready text h l t o)).seen
    ∙ (λ i. watch (o.lengths i) ms (o.rounds i) k p.body (e-state i) (e-seen i))
    ∙ watch_same p.arrays ms (thresholds p) (λ j. sym (above_shuffled j (thresholds p) ms o.shuffled)) (λ j. sym (below_shuffled j (thresholds p) ms o.shuffled))
    (round_limit p) k p.body (reached initial_env) unreached

-- commands of other kinds load no program
alarms_load_none : (text : List ℕ) (p : Program) → EncodingOf all_alarms text → EncodingOf (load p) text → ⊥
unfolding encode
alarms_load_none text p a b = let e : 2 ≡ 1 = ap (λ (s : List ℕ). get_or s 0 0) (a.0 ∙ sym b.0) in omega (arith, e)

end_loads_none : (text : List ℕ) (x : ℕ) (p : Program) → EncodingOf (at_end x) text → EncodingOf (load p) text → ⊥
unfolding encode
end_loads_none text x p a b = let e : 3 ≡ 1 = ap (λ (s : List ℕ). get_or s 0 0) (a.0 ∙ sym b.0) in omega (arith, e)

pub others_load_none : (text : List ℕ) (r : Request) (p : Program) → ((h : Header) → r ≡ Load h → ⊥) → Reads text (Some r) → EncodingOf (load p) text → ⊥
others_load_none text (Load h) p other reads loads = other h refl
others_load_none text Alarms p other reads loads = alarms_load_none text p reads loads
others_load_none text (AtEnd x) p other reads loads = end_loads_none text x p reads loads
