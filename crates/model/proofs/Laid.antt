-- The memory that holds what the code's analysis left is that of the program. Rests on Analysed.
use Rattle.std.proofs.Common.{◌≡◌, ℕ, ◌-◌, ◌<◌, true, cond, List, length, get_or, refl, ap, ◌∙◌, arith}
use Rattle.program.specs.Syntax.{Program}
use Rattle.program.specs.Validity.{valid_program}
use Rattle.encoding.proofs.Valid.{program_parts}
use Rattle.interval.specs.Interval.{threshold_above, threshold_below}
use Rattle.analysis.specs.Reach.{Alarm, Analysis}
use Rattle.analysis.specs.AbstractState.{Env, Abstract}
use Rattle.analysis.specs.Analyser.{analyse}
use Rattle.analysis.specs.Thresholds.{thresholds}
use Rattle.analysis.specs.Whole.{round_limit, analyse_program}
use Rattle.analysis.specs.Concretisation.{has_alarm}
use Rattle.analysis.specs.Padding.{pad}
use Rattle.model.specs.Memory.{slots, zeros, slot_stmt, slot_kind, alarm_table, memory_with, memory_of, laid}
use Rattle.model.proofs.Memory.{length_zeros}
use Rattle.model.proofs.Analysed.{all_zero, analysed, end_padded, no_end_padded, marked_zeros}

-- a table of zeros in which these alarms were marked
table_marked : (as₁ : List Alarm) (t t₀ : List ℕ) → t₀ ≡ zeros slots → length t ≡ length t₀ →
    ((i : ℕ) → i < length t₀ → get_or t i 0 ≡ cond (has_alarm as₁ (slot_stmt i) (slot_kind i)) 1 (get_or t₀ i 0)) → t ≡ alarm_table as₁ slots 0
table_marked as₁ t t₀ z long each =
    let n : length t₀ ≡ slots = ap length z ∙ length_zeros slots in
    marked_zeros as₁ slots t (long ∙ n)
    (λ i h. each i (omega arith) ∙ ap (λ (w : List ℕ). cond (has_alarm as₁ (slot_stmt i) (slot_kind i)) 1 (get_or w i 0)) z)

-- the state at the end and the table, by thresholds in any order and from a state of 64 variables and 16 arrays
pub laid_is : (p : Program) (ms t t₀ : List ℕ) (s : Abstract) → valid_program p ≡ true →
    ((n : ℕ) → threshold_above n ms ≡ threshold_above n (thresholds p)) → ((n : ℕ) → threshold_below n ms ≡ threshold_below n (thresholds p)) →
    s ≡ (analyse p.arrays ms (round_limit p) p.body (all_zero 64 16)).out → t₀ ≡ zeros slots → length t ≡ length t₀ →
    ((i : ℕ) → i < length t₀ → get_or t i 0 ≡ cond (has_alarm (analyse p.arrays ms (round_limit p) p.body (all_zero 64 16)).alarms (slot_stmt i) (slot_kind i)) 1 (get_or t₀ i 0)) →
    memory_with 0 p.vars s t ≡ laid 0 p
unfolding memory_of
laid_is p ms t t₀ s valid above below out z long each =
    let q = program_parts p valid in
    let k : ℕ = 64 - p.vars in
    let j : ℕ = 16 - length p.arrays in
    let a = analysed p 64 16 ms valid q.vars q.arrays above below in
    let state : s ≡ pad k j (analyse_program p).out = out ∙ ap (λ (x : Analysis Env). x.out) a in
    let table : t ≡ alarm_table (analyse_program p).alarms slots 0 =
    table_marked (analyse_program p).alarms t t₀ z long
    (λ i h. each i h ∙ ap (λ (x : Analysis Env). cond (has_alarm x.alarms (slot_stmt i) (slot_kind i)) 1 (get_or t₀ i 0)) a) in
    rw (state, table, end_padded k j (analyse_program p).out, no_end_padded k j (analyse_program p).out) refl
