-- What a user gets. Rests on what the machine answers, and on the analysis: that nothing is missed, and that all bounds lie below 2^32.
use Rattle.std.proofs.Common.{◌≡◌, ℕ, ◌<◌, ◌≤◌, true, ◌&&◌, eqb, List, [], ◌∷◌, ◌++◌, length, get_or, refl, subst, inl, inr, ⊎_elim, arith}
use Rattle.std.proofs.lemmas.Bool.{and_parts, or_cases, eqb-true, lt-ltb}
use Rattle.program.specs.Basics.{map, eight, limit}
use Rattle.program.specs.Syntax.{Program}
use Rattle.program.specs.Semantics.{State}
use Rattle.program.specs.Command.{all_alarms, at_end, encode, valid, everything}
use Rattle.analysis.specs.Reach.{unreached, reached, Alarm}
use Rattle.analysis.specs.AbstractState.{Abstract, nth_interval}
use Rattle.analysis.specs.Whole.{analyse_program}
use Rattle.analysis.specs.Concretisation.{has_alarm}
use Rattle.analysis.specs.Respond.{Response, answer, alarms_of, end_interval, respond}
use Rattle.analysis.specs.Statements.{NothingMissed, MissesNothing}
use Rattle.analysis.proofs.Relations.{Well, Covers, covers_from_test}
use Rattle.analysis.proofs.AbstractState.{nth_lies, nth_proper}
use Rattle.analysis.proofs.Missed.{misses_nothing, proper_out}
use Rattle.encoding.specs.Reader.{nothing, heard}
use Rattle.encoding.proofs.Hear.{hear_is}
use Rattle.encoding.proofs.Valid.{program_parts}
use Rattle.model.specs.Promise.{Encodes}
use Rattle.model.specs.Entry.{own}
use Rattle.model.specs.Session.{StandsFor, Replies, CommandAnswered, TextRefused, Among, FaultShown, EndShown}
use Rattle.model.proofs.Shown.{alarm_row}
use Rattle.model.proofs.Rightly.{answered, refuses, on_nothing, on_known}

pub command_answered : CommandAnswered
unfolding CommandAnswered
command_answered m p c st v = answered everything m p (encode c) c st v (on_known everything m (encode c) c (hear_is (encode c) (heard c) (refl, v)) refl)

pub text_refused : TextRefused
unfolding TextRefused Encodes
text_refused m p t st h = refuses everything m p t 1 (omega arith) (omega arith) st (on_nothing everything m t (hear_is t nothing h))

-- an alarm's row is among the rows of all
row_among : (as₁ : List Alarm) (d k : ℕ) → has_alarm as₁ d k ≡ true → Among (eight d ++ k ∷ []) (map alarm_row as₁)
row_among [] d k h = let z : ◌≡◌ {A = ℕ} 0 1 = cc in absurd (omega arith)
row_among (a ∷ as₁) d k h =
    ⊎_elim
    (λ (e : (eqb a.stmt d && eqb a.kind k) ≡ true).
    let q = and_parts (eqb a.stmt d) (eqb a.kind k) e in
    let f = eqb-true a.stmt d q.0 in let g = eqb-true a.kind k q.1 in inl (rw (f, g) refl))
    (λ (e : has_alarm as₁ d k ≡ true). inr (row_among as₁ d k e))
    (or_cases (eqb a.stmt d && eqb a.kind k) (has_alarm as₁ d k) h)

pub fault_shown : FaultShown
unfolding FaultShown MissesNothing NothingMissed CommandAnswered respond valid
fault_shown m p st n inputs d k e =
    (map alarm_row (alarms_of p), command_answered m p all_alarms st refl, row_among (alarms_of p) d k ((misses_nothing p st.proper n inputs).0 d k e))

-- the row of a state's end
end_row : (v r : ℕ) (ns : List ℕ) (s : State) (h : Abstract) (x : ℕ) → Well v r h → Covers ns s h →
    (lo : ℕ) × (hi : ℕ) × (end_interval h x ≡ (eight lo ++ eight hi) ∷ []) × (lo ≤ get_or s.values x 0) × (get_or s.values x 0 ≤ hi) × (hi < limit)
unfolding end_interval
end_row v r ns s unreached x w c = absurd c
end_row v r ns s (reached k) x w c =
    let l = nth_lies s.values k.values x c.0 in
    ((nth_interval k.values x).lo, (nth_interval k.values x).hi, refl, l.0, l.1, (nth_proper k.values x w.2).1)

-- the answer of a variable's end
end_answered : (m : List ℕ) (p : Program) (x : ℕ) → StandsFor m p → x < p.vars → Replies own m (encode (at_end x)) (end_interval (analyse_program p).out x) 0 p
unfolding CommandAnswered respond valid
end_answered m p x st l =
    let few : p.vars ≤ 64 = (program_parts p st.proper).vars in
    let e : respond p (at_end x) ≡ answer (end_interval (analyse_program p).out x) p = rw (lt-ltb x p.vars l) refl in
    subst (λ (r : Response). Replies own m (encode (at_end x)) r.shows r.reply r.next) e (command_answered m p (at_end x) st (lt-ltb x 64 (omega arith)))

pub end_shown : EndShown
unfolding EndShown MissesNothing NothingMissed
end_shown m p x st l n inputs s e =
    let (lo, hi, row, low, high, proper) =
    end_row p.vars (length p.arrays) p.arrays s (analyse_program p).out x (proper_out p st.proper)
    (covers_from_test p.arrays s (analyse_program p).out ((misses_nothing p st.proper n inputs).1 s e)) in
    (lo, hi, subst (λ (rows : List (List ℕ)). Replies own m (encode (at_end x)) rows 0 p) row (end_answered m p x st l), low, high, proper)
