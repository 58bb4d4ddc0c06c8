-- From a table that is written to a table that is gathered and sorted. Rests on Walking, Low and Few.
use Rattle.std.proofs.Common.{◌≡◌, ℕ, ◌+◌, ◌-◌, ◌<◌, ◌≤◌, true, List, [], ◌∷◌, ◌++◌, length, get_or, take, drop, sym, refl, ap, ◌∙◌, subst, arith}
use lib.Seq.{sets, sets-eq}
use Rattle.std.specs.Ordering.{nat_cmp}
use Rattle.std.specs.List.Sorted.{IsPermutation, IsNonDecreasing, IsSorted}
use Rattle.std.proofs.lemmas.List.{take_at, drop_at, take_more}
use Rattle.std.proofs.lemmas.List.Sorted.{IsNonDecreasingBy-from_sort}
use Rattle.program.specs.Syntax.{Stmt, Program}
use Rattle.program.specs.Encoding.{encode_stmt}
use Rattle.program.specs.Validity.{valid_program}
use Rattle.analysis.specs.Thresholds.{stmt_thresholds}
use Rattle.encoding.specs.Standing.{Stands}
use Rattle.encoding.proofs.Parts.{stmt_within}
use Rattle.encoding.proofs.Valid.{program_parts}
use Rattle.thresholds.specs.declared.table.Collector.{Collector}
use Rattle.thresholds.specs.Collecting.{small, length_thresholds, all_thresholds, Room, Walk, Written, Writes, Collectable, Gathered, Sorted}
use Rattle.thresholds.proofs.Few.{few_thresholds}
use Rattle.thresholds.proofs.Low.{stmt_low}
use Rattle.thresholds.proofs.Walking.{length_small, written_two, written_length, writes_two}

-- the arrays' thresholds part by part
length_thresholds_append : (xs ys : List ℕ) → length_thresholds (xs ++ ys) ≡ length_thresholds xs ++ length_thresholds ys
length_thresholds_append [] ys = refl
length_thresholds_append (x ∷ xs) ys = ap (λ (zs : List ℕ). (x - 1) ∷ x ∷ zs) (length_thresholds_append xs ys)

-- those of one array more
pub lengths_more : (ns : List ℕ) (c c₁ c₂ : Collector) (i m : ℕ) → i < length ns → m ≡ get_or ns i 0 - 1 →
    Writes (length_thresholds (take i ns)) c c₁ → Writes (m ∷ get_or ns i 0 ∷ []) c₁ c₂ → Writes (length_thresholds (take (i + 1) ns)) c c₂
lengths_more ns c c₁ c₂ i m l e w write =
    let here : length_thresholds (take (i + 1) ns) ≡ length_thresholds (take i ns) ++ m ∷ get_or ns i 0 ∷ [] =
    ap length_thresholds (take_more ns i 0 l) ∙ length_thresholds_append (take i ns) (get_or ns i 0 ∷ []) ∙ ap (λ (k : ℕ). length_thresholds (take i ns) ++ k ∷ get_or ns i 0 ∷ []) (sym e) in
    subst (λ (zs : List ℕ). Writes zs c c₂) (sym here) (writes_two (length_thresholds (take i ns)) (m ∷ get_or ns i 0 ∷ []) c c₁ c₂ w write)

-- what is written from the start on stands at the front
pub written_front : (ms : List ℕ) (c c₁ : Collector) → c.count ≡ 0 → length (small ms) ≤ length c.slots.now → Written ms c c₁ → Gathered (small ms) c.slots.now c₁.slots.now c₁.count
written_front ms c c₁ z l w =
    let T = c.slots.now in
    let T₁ = c₁.slots.now in
    let r = c₁.count in
    let e : T₁ ≡ small ms ++ drop (0 + length (small ms)) T = w.writes ∙ ap (λ (k : ℕ). sets T k (small ms)) z ∙ sets-eq (small ms) T 0 (omega arith) in
    let k : length (small ms) ≡ r = omega (arith, w.counts) in
    record {
      counts = sym k;
      front = ap (λ (zs : List ℕ). take r zs) e ∙ take_at (small ms) (drop (0 + length (small ms)) T) r k;
      rest = ap (λ (zs : List ℕ). drop r zs) e ∙ drop_at (small ms) (drop (0 + length (small ms)) T) r k ∙ ap (λ (j : ℕ). drop j T) (omega arith);
    }

-- its front sorted
pub gathered_sorted : (ms T T₁ front : List ℕ) (r : ℕ) → Gathered ms T T₁ r → IsPermutation (take r T₁) front → length front ≡ length (take r T₁) →
    IsSorted nat_cmp front → Sorted ms T (front ++ drop r T₁) r
gathered_sorted ms T T₁ front r h s l up =
    let k : length front ≡ r = omega (arith, l, ap length h.front, h.counts) in
    let same = take_at front (drop r T₁) r k in
    record {
      counts = h.counts;
      shuffled = subst (λ (zs : List ℕ). IsPermutation ms zs) (sym same) (subst (λ (zs : List ℕ). IsPermutation zs front) h.front s);
      rising = subst (λ (zs : List ℕ). IsNonDecreasing zs) (sym same) (IsNonDecreasingBy-from_sort (λ x. x) front up);
      rest = drop_at front (drop r T₁) r k ∙ h.rest;
    }

-- the walk over a statement, and then the arrays' lengths
pub gathers : (ns T₂ : List ℕ) (c c₁ c₂ : Collector) (pos end : ℕ) (d : Stmt) → c.count ≡ 0 → T₂ ≡ c₂.slots.now → Collectable c.text.now pos ns c.slots.now d →
    Walk c pos (length c.text.now) c₁ end (encode_stmt d) (stmt_thresholds d) → Writes (length_thresholds ns) c₁ c₂ →
    Gathered (all_thresholds d ns) c.slots.now T₂ c₂.count
gathers ns T₂ c c₁ c₂ pos end d z e h walk write =
    let k = length_small (stmt_thresholds d) (length_thresholds ns) in
    let room : Room (stmt_thresholds d) c = record { low = stmt_low h.vars h.arrays d h.valid; fits = omega (arith, k, h.fits) } in
    let w = (walk (record { stands = h.stands; enough = omega (arith, stmt_within c.text.now pos d h.stands); room = room })).written in
    let u = write (omega (arith, k, h.fits, w.counts, written_length _ _ _ w)) in
    rw e (written_front (stmt_thresholds d ++ length_thresholds ns) c c₂ z h.fits (written_two (stmt_thresholds d) (length_thresholds ns) c c₁ c₂ w u))

-- a valid program's thresholds have room in 11,000 words
pub collectable : (p : Program) (text table : List ℕ) (pos : ℕ) → valid_program p ≡ true → Stands text pos (encode_stmt p.body) → 11000 ≤ length table →
    Collectable text pos p.arrays table p.body
collectable p text table pos v s l =
    record { vars = p.vars; arrays = length p.arrays; valid = (program_parts p v).body; stands = s; fits = omega (arith, few_thresholds p v) }
