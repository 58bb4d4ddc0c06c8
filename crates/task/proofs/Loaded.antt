-- What the header of a loaded program tells of the program, and that its task is the program's. Rests on the lemmas of thresholds.
use Rattle.std.proofs.Common.{◌≡◌, ℕ, ◌+◌, ◌*◌, ◌≤◌, true, List, length, take, sym, ◌∙◌, subst, arith, take_at}
use Rattle.std.specs.List.Sorted.{IsPermutation, IsNonDecreasing}
use Rattle.std.proofs.ByRecursion.{All-weaker}
use Rattle.program.specs.Syntax.{Stmt}
use Rattle.program.specs.Validity.{valid_program, stmt_numbers}
use Rattle.program.specs.Command.{valid}
use Rattle.encoding.proofs.Valid.{program_parts, numbers_bounded}
use Rattle.analysis.specs.Thresholds.{thresholds}
use Rattle.reader.specs.declared.load.Header.{Header}
use Rattle.reader.specs.Request.{Loads}
use Rattle.thresholds.specs.Collecting.{all_thresholds, Collectable, Sorted}
use Rattle.thresholds.proofs.Gathering.{collectable}
use Rattle.walker.specs.declared.types.Task.{Task}
use Rattle.walker.specs.Ready.{Low, StmtReady}
use Rattle.task.specs.Task.{TaskOf}

-- the program that was read is valid
pub loads_valid : (text : List ℕ) (h : Header) (l : Loads text h) → valid_program l.program ≡ true
unfolding valid
loads_valid text h l = l.encoded.1

-- its arrays' lengths are the first that were read
loads_lengths : (text : List ℕ) (h : Header) (l : Loads text h) → take h.arrays h.lengths ≡ l.program.arrays
loads_lengths text h l = rw l.lengths (take_at l.program.arrays _ h.arrays (sym l.arrays))

-- its body can be gone through
pub loads_ready : (text : List ℕ) (h : Header) (l : Loads text h) → StmtReady text h.body (length text) l.program.body
loads_ready text h l =
    let v = loads_valid text h l in
    record {
      variables = l.program.vars;
      arrays = length l.program.arrays;
      stands = l.stands;
      enough = omega (arith, l.ends);
      valid = (program_parts l.program v).body;
      low = All-weaker (λ (k : ℕ). (1 ≤ k) × (k ≤ 2730)) Low (λ k b. omega (arith, b.1)) (stmt_numbers l.program.body) (numbers_bounded l.program v);
    }

-- and so by its task
pub task_ready : (text : List ℕ) (h : Header) (l : Loads text h) (t : Task) → TaskOf l.program text t → StmtReady t.text.now h.body (length t.text.now) l.program.body
task_ready text h l t o = subst (λ (bs : List ℕ). StmtReady bs h.body (length bs) l.program.body) (sym o.text) (loads_ready text h l)

-- a task with the lengths that the header tells, with what was collected in a table, and with rounds for so many thresholds is the program's
pub task_found : (text : List ℕ) (h : Header) (l : Loads text h) (part out : List ℕ) (count : ℕ) (t : Task) →
    t.text.now ≡ text → t.lengths.now ≡ take h.arrays h.lengths → length part ≡ 11000 → t.thresholds.now ≡ take count out →
    t.rounds ≡ 5 + 2 * (h.vars + h.arrays) * (2 + count) →
    ((d : Stmt) → Collectable text h.body t.lengths.now part d → Sorted (all_thresholds d t.lengths.now) part out count) → TaskOf l.program text t
task_found text h l part out count t e-text e-arrays room e-front e-rounds collected =
    let p = l.program in
    let v = loads_valid text h l in
    let a : t.lengths.now ≡ p.arrays = e-arrays ∙ loads_lengths text h l in
    let sorted = subst (λ (ks : List ℕ). Sorted (all_thresholds p.body ks) part out count) a
    (collected p.body (subst (λ (ks : List ℕ). Collectable text h.body ks part p.body) (sym a) (collectable p text part h.body v l.stands (omega arith)))) in
    record {
      text = e-text;
      lengths = a;
      shuffled = subst (λ (ks : List ℕ). IsPermutation (thresholds p) ks) (sym e-front) sorted.shuffled;
      rising = subst (λ (ks : List ℕ). IsNonDecreasing ks) (sym e-front) sorted.rising;
      rounds = e-rounds ∙ (λ i. 5 + 2 * (l.vars i + l.arrays i) * (2 + sorted.counts i));
    }
