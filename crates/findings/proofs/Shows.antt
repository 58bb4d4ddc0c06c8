-- What a session's answers come to: the program stays, and the rows tell every fault and every end.
use Rattle.std.proofs.Common.{◌≡◌, ℕ, ◌+◌, ◌<◌, ◌≤◌, Bool, true, false, cond, ltb, List, [], ◌∷◌, ◌++◌, get_or, None, vec_items, Option, sym, refl, ap, ◌∙◌, subst, ⊎_elim, arith}
use Rattle.std.proofs.lemmas.Bool.{lt-ltb, cases_lt}
use Rattle.std.proofs.lemmas.List.{get_or_append_left, get_or_push, length-append}
use Rattle.program.specs.Syntax.{Program}
use Rattle.program.specs.Semantics.{Outcome, finished, fault, out_of_rounds, run_program}
use Rattle.program.specs.Validity.{valid_program}
use Rattle.program.specs.Command.{load, all_alarms, at_end, encode, valid}
use Rattle.encoding.proofs.Valid.{program_parts}
use Rattle.analysis.specs.Respond.{respond, answer, refuse}
use Rattle.model.specs.Promise.{Encodes}
use Rattle.model.specs.Session.{StandsFor}
use Rattle.session.specs.declared.rows.Row.{Row}
use Rattle.session.specs.Answers.{Answered, FaultsShown, EndsShown}
use Rattle.findings.specs.declared.Report.{Report}
use Rattle.findings.specs.Told.{InRow, Tells, TellsAll}
use Rattle.findings.specs.Ends.{first_of, EndsAt, AllEnds}

-- the program is loaded
pub load_stands : (text : List ℕ) (q : Program) (rows : List Row) (end : ℕ) (m₁ : List ℕ) (p : Program) → text ≡ encode (load q) → valid (load q) ≡ true →
    Answered text rows end m₁ p → StandsFor m₁ q
unfolding Encodes respond
load_stands text q rows end m₁ p e v a = (a.known (load q) (sym e, v)).2

-- the program stays
pub alarms_stand : (rows : List Row) (end : ℕ) (m₁ : List ℕ) (p : Program) → Answered (2 ∷ []) rows end m₁ p → StandsFor m₁ p
unfolding Encodes respond encode valid
alarms_stand rows end m₁ p a = (a.known all_alarms (refl, refl)).2

next_stays : (b : Bool) (ss : List (List ℕ)) (p : Program) → (cond b (answer ss p) (refuse 3 p)).next ≡ p
next_stays true ss p = refl
next_stays false ss p = refl

end_next : (p : Program) (x : ℕ) → (respond p (at_end x)).next ≡ p
unfolding respond
end_next p x = next_stays (ltb x p.vars) _ p

end_encodes : (p : Program) (x : ℕ) → valid_program p ≡ true → x < p.vars → Encodes (3 ∷ x ∷ []) (at_end x)
unfolding Encodes encode valid
end_encodes p x v l = (refl, lt-ltb x 64 (omega (arith, (program_parts p v).vars)))

pub end_stands : (x : ℕ) (rows : List Row) (end : ℕ) (m₁ : List ℕ) (p : Program) → valid_program p ≡ true → x < p.vars → Answered (3 ∷ x ∷ []) rows end m₁ p → StandsFor m₁ p
end_stands x rows end m₁ p v l a = subst (λ (q : Program). StandsFor m₁ q) (end_next p x) (a.known (at_end x) (end_encodes p x v l)).2

-- the first row tells the variable's end
pub end_in : (x : ℕ) (rows : List Row) (p : Program) → x < p.vars → EndsShown (3 ∷ x ∷ []) rows p → (r : Option Row) → r ≡ first_of rows → EndsAt p x r
end_in x rows p l h r e n ins s f =
    let g = h x refl l n ins s f in
    subst (λ (q : Option Row). InRow q (get_or s.values x 0)) (sym (e ∙ ap first_of g.2)) (g.3, g.4)

-- one row more
pub ends_more : (p : Program) (x : ℕ) (rows rows₁ : List (Option Row)) (r : Option Row) → AllEnds p x rows → EndsAt p x r → rows₁ ≡ rows ++ r ∷ [] → AllEnds p (x + 1) rows₁
ends_more p x rows rows₁ r h g e = subst (λ (rs : List (Option Row)). AllEnds p (x + 1) rs) (sym e) (record { count = length-append rows (r ∷ []) ∙ ap (λ (k : ℕ). k + 1) h.count; each = by_place })
  where
    by_place : (y : ℕ) → y < x + 1 → EndsAt p y (get_or (rows ++ r ∷ []) y None)
    by_place y l =
        ⊎_elim
        (λ (k : y < x). subst (λ (q : Option Row). EndsAt p y q) (sym (get_or_append_left rows (r ∷ []) None y (omega (arith, h.count)))) (h.each y k))
        (λ (k : x ≤ y). let q : y ≡ x = omega arith in subst (λ (j : ℕ). EndsAt p j (get_or (rows ++ r ∷ []) j None)) (sym q) (subst (λ (w : Option Row). EndsAt p x w) (sym (get_or_push rows r None x h.count)) g))
        (cases_lt y x)

tells_by : (rep : Report) (p : Program) (n : ℕ) (ins : List ℕ) → FaultsShown (2 ∷ []) (vec_items rep.alarms) p → AllEnds p p.vars (vec_items rep.ends) →
    (o : Outcome) → run_program n p ins ≡ o → Tells rep o
tells_by rep p n ins f h (finished s) e = λ x l. h.each x (omega (arith, h.count)) n ins s e
tells_by rep p n ins f h (fault d k) e = f refl n ins d k e
tells_by rep p n ins f h out_of_rounds e = tt

-- the report tells how every run ends
pub tells_all : (rep : Report) (p : Program) → FaultsShown (2 ∷ []) (vec_items rep.alarms) p → AllEnds p p.vars (vec_items rep.ends) → TellsAll rep p
tells_all rep p f h n ins = tells_by rep p n ins f h (run_program n p ins) refl
