-- A command that has ended is answered as defined, and shows every fault and every end. Rests on what the machine answers.
use Rattle.std.proofs.Common.{◌≡◌, ℕ, zero, suc, ◌+◌, ◌/◌, ◌%◌, ◌^◌, ◌<◌, ◌≤◌, Bool, true, false, cond, ◌&&◌, eqb, List, [], ◌∷◌, ◌++◌, sym, ap, ◌∙◌, subst, ⊎_elim, arith}
use Rattle.std.proofs.lemmas.Bool.{and_parts, or_cases, eqb-true}
use Rattle.std.proofs.lemmas.Bool.Decides.{nat_tests}
use Rattle.program.specs.Basics.{eight}
use Rattle.program.specs.Syntax.{Program}
use Rattle.program.specs.Validity.{valid_program}
use Rattle.program.specs.Command.{Command, load, all_alarms, at_end, encode}
use Rattle.analysis.specs.Reach.{Alarm}
use Rattle.analysis.specs.Whole.{analyse_program}
use Rattle.analysis.specs.Concretisation.{has_alarm}
use Rattle.analysis.specs.Respond.{alarms_of, respond}
use Rattle.analysis.specs.Statements.{NothingMissed, MissesNothing}
use Rattle.analysis.proofs.Missed.{misses_nothing}
use Rattle.encoding.specs.Reader.{Heard, nothing, heard, hear}
use Rattle.encoding.specs.Statements.{Hears, ReadsOnly}
use Rattle.encoding.proofs.Hear.{reads_only}
use Rattle.model.specs.Promise.{command, Ran, ran, run_machine, Encodes}
use Rattle.model.specs.Memory.{slots}
use Rattle.model.specs.Session.{StandsFor, Replies, CommandAnswered, TextRefused, Among, FaultShown, EndShown}
use Rattle.model.specs.Entry.{own}
use Rattle.model.proofs.Order.{alarm_of, marked, listed, sorted_listed}
use Rattle.model.proofs.Range.{valid_in_table}
use Rattle.model.proofs.Session.{command_answered, text_refused, fault_shown, end_shown}
use Rattle.session.specs.declared.rows.Row.{Row}
use Rattle.session.specs.Rows.{rows_bytes}
use Rattle.session.specs.Answers.{Ended, Answered, FaultsShown, EndsShown}
use Rattle.session.proofs.Runs.{same_runs}
use Rattle.session.proofs.Bytes.{has_alarm_row, no_rows, one_bounds}

-- a command's end is no refusal for want of steps
reply_ends : (p : Program) (c : Command) → (respond p c).reply < 1000
unfolding respond
reply_ends p (load q) = omega arith
reply_ends p all_alarms = omega arith
reply_ends p (at_end x) = grind (arith, nat_tests)

-- the reply is what has been shown
pub record Replied (rows : List Row) (end : ℕ) (m₁ : List ℕ) (shown : List (List ℕ)) (reply : ℕ) (p : Program) : Type 0 where
  pub rows_are : rows_bytes rows ≡ shown
  pub end_is : end ≡ reply
  pub stands : StandsFor m₁ p

replied : (m text : List ℕ) (rows : List Row) (end : ℕ) (m₁ : List ℕ) (shown : List (List ℕ)) (reply : ℕ) (p : Program) → reply < 1000 →
    Ended m text rows end m₁ → Replies own m text shown reply p → Replied rows end m₁ shown reply p
replied m text rows end m₁ shown reply p l f r =
    let far : (run_machine f.steps own m (command text) []).end ≡ end = ap (λ (x : Ran). x.end) f.runs in
    let e : run_machine f.steps own m (command text) [] ≡ run_machine r.steps own m (command text) [] =
    same_runs f.steps r.steps own m (command text) [] (λ q. omega (arith, f.over)) (λ q. omega (arith, r.ended)) in
    let same : ran m₁ (rows_bytes rows) end ≡ run_machine r.steps own m (command text) [] = sym f.runs ∙ e in
    record {
      rows_are = ap (λ (x : Ran). x.showed) same ∙ r.shown;
      end_is = ap (λ (x : Ran). x.end) same ∙ r.ended;
      stands = subst (λ (w : List ℕ). StandsFor w p) (sym (ap (λ (x : Ran). x.memory) same)) r.after;
    }

pub answered : (m text : List ℕ) (rows : List Row) (end : ℕ) (m₁ : List ℕ) (p : Program) → Ended m text rows end m₁ → StandsFor m p → Answered text rows end m₁ p
unfolding CommandAnswered TextRefused Encodes
answered m text rows end m₁ p f st =
    record {
      known = λ c e.
          let r = replied m text rows end m₁ _ _ _ (reply_ends p c) f
          (subst (λ (t : List ℕ). Replies own m t (respond p c).shows (respond p c).reply (respond p c).next) e.0 (command_answered m p c st e.1)) in
          (r.rows_are, r.end_is, r.stands);
      unknown = λ n.
          let r = replied m text rows end m₁ [] 1 p (omega arith) f (text_refused m p text st n) in
          (no_rows rows r.rows_are, r.end_is, r.stands);
    }

-- an alarm that is listed has a number below that of the last slot
in_listed : (as₁ : List Alarm) (n i d k : ℕ) → has_alarm (listed as₁ n i) d k ≡ true → d ≤ i + n
unfolding listed
in_listed as₁ zero i d k h = let z : ◌≡◌ {A = ℕ} 0 1 = cc in absurd (omega arith)
in_listed as₁ (suc n) i d k h = by-mark (marked as₁ i) (in_listed as₁ n (suc i) d k) h
  where
    by-mark : (b : Bool) → (has_alarm (listed as₁ n (suc i)) d k ≡ true → d ≤ suc i + n) → has_alarm (cond b (alarm_of i ∷ listed as₁ n (suc i)) (listed as₁ n (suc i))) d k ≡ true → d ≤ i + suc n
    by-mark false rec g = omega (arith, rec g)
    by-mark true rec g =
        ⊎_elim
        (λ (e : (eqb (suc (i / 4)) d && eqb (suc (i % 4)) k) ≡ true). let q = eqb-true (suc (i / 4)) d (and_parts (eqb (suc (i / 4)) d) (eqb (suc (i % 4)) k) e).0 in omega arith)
        (λ (e : has_alarm (listed as₁ n (suc i)) d k ≡ true). omega (arith, rec e))
        (or_cases (eqb (suc (i / 4)) d && eqb (suc (i % 4)) k) (has_alarm (listed as₁ n (suc i)) d k) g)

alarm_small : (p : Program) (d k : ℕ) → valid_program p ≡ true → has_alarm (alarms_of p) d k ≡ true → d < 2 ^ 64
alarm_small p d k v h =
    let e = sorted_listed slots (analyse_program p).alarms (valid_in_table p v) in
    omega (arith, in_listed (analyse_program p).alarms slots 0 d k (subst (λ (as₁ : List Alarm). has_alarm as₁ d k ≡ true) e h))

pub faults_shown : (m text : List ℕ) (rows : List Row) (end : ℕ) (m₁ : List ℕ) (p : Program) → Ended m text rows end m₁ → StandsFor m p → FaultsShown text rows p
unfolding FaultShown MissesNothing NothingMissed encode
faults_shown m text rows end m₁ p f st e n inputs d k g =
    let (shown, r, a) = fault_shown m p st n inputs d k g in
    let q = replied m text rows end m₁ shown 0 p (omega arith) f (subst (λ (t : List ℕ). Replies own m t shown 0 p) (sym e) r) in
    has_alarm_row rows d k f.words (alarm_small p d k st.proper ((misses_nothing p st.proper n inputs).0 d k g)) (subst (λ (ss : List (List ℕ)). Among (eight d ++ k ∷ []) ss) (sym q.rows_are) a)

pub ends_shown : (m text : List ℕ) (rows : List Row) (end : ℕ) (m₁ : List ℕ) (p : Program) → Ended m text rows end m₁ → StandsFor m p → EndsShown text rows p
unfolding EndShown encode
ends_shown m text rows end m₁ p f st x e l n inputs s g =
    let (lo, hi, r, low, high, proper) = end_shown m p x st l n inputs s g in
    let q = replied m text rows end m₁ ((eight lo ++ eight hi) ∷ []) 0 p (omega arith) f (subst (λ (t : List ℕ). Replies own m t ((eight lo ++ eight hi) ∷ []) 0 p) (sym e) r) in
    (lo, hi, one_bounds rows lo hi f.words (omega arith) (omega arith) q.rows_are, low, high, proper)

-- the memory stands for a program still
pub stands_still : (text : List ℕ) (rows : List Row) (end : ℕ) (m₁ : List ℕ) (p : Program) → Answered text rows end m₁ p → (q : Program) × StandsFor m₁ q
unfolding ReadsOnly Encodes
stands_still text rows end m₁ p a = by-heard (hear text) (reads_only text)
  where
    by-heard : (h : Heard) → Hears text h → (q : Program) × StandsFor m₁ q
    by-heard nothing h = (p, (a.unknown h).2)
    by-heard (heard c) h = ((respond p c).next, (a.known c h).2)
