-- A row by its place among rows; and that nothing is missing where the report tells how the run ended.
use Rattle.std.proofs.Common.{◌≡◌, ℕ, zero, suc, ◌<◌, List, [], ◌∷◌, length, get_or, Some, None, Option, sym, refl, inl, inr, ⊎_elim, arith}
use Rattle.std.specs.List.{AllWithin, HoldsAt}
use Rattle.std.specs.Option.{MatchOption}
use Rattle.runner.specs.Whole.{as_outcome}
use Rattle.runner.specs.declared.types.Outcome.{Outcome}
use Rattle.runner.specs.declared.types.Outcome.TheVariants.{Finished, Fault, OutOfRounds}
use Rattle.session.specs.Rows.{Has}
use Rattle.session.specs.declared.rows.Row.{Row}
use Rattle.session.specs.declared.rows.Row.TheVariants.{Alarm}
use Rattle.findings.specs.declared.Report.{Report}
use Rattle.findings.specs.Told.{Tells}
use Rattle.compare.specs.declared.missing.Missing.{Missing}
use Rattle.compare.specs.Missing.{AlarmFound, Finds}

pub not_has : (rows : List Row) (x : Row) → ((k : ℕ) → k < length rows → (e : Row) → get_or rows k e ≡ x → ⊥) → Has x rows → ⊥
not_has [] x h g = g
not_has (r ∷ rs) x h g = ⊎_elim (λ (e : x ≡ r). h 0 (omega arith) x (sym e)) (λ (q : Has x rs). not_has rs x (λ k l. h (suc k) (omega arith)) q) g

pub has_at : (rows : List Row) (x : Row) (i : ℕ) → i < length rows → ((e : Row) → get_or rows i e ≡ x) → Has x rows
has_at [] x i l h = absurd (omega arith)
has_at (r ∷ rs) x zero l h = inl (sym (h x))
has_at (r ∷ rs) x (suc i) l h = inr (has_at rs x i (omega arith) h)

-- the first row that is the alarm, if one is
pub alarm_found : (rows : List Row) (d k : ℕ) (r : Option ℕ) →
    MatchOption r (AllWithin (λ (x : Row). x ≡ Alarm d k → ⊥) rows 0 (length rows)) (λ i. (i < length rows) × HoldsAt (λ (x : Row). x ≡ Alarm d k) rows i × AllWithin (λ (x : Row). x ≡ Alarm d k → ⊥) rows 0 i) →
    AlarmFound rows d k r
alarm_found rows d k None h = not_has rows (Alarm d k) (λ j l e. h j e (omega arith) l)
alarm_found rows d k (Some i) h = (h.0, h.1)

-- what a report tells of a run has nothing to do with the inputs that are left
same_tells : (rep : Report) (o : Outcome) (ins : List ℕ) → Tells rep (as_outcome ins o) → Tells rep (as_outcome [] o)
same_tells rep (Finished m) ins t = t
same_tells rep (Fault d k) ins t = t
same_tells rep OutOfRounds ins t = tt

pub finds_none : (rep : Report) (o : Outcome) (ins : List ℕ) (r : Option Missing) → Tells rep (as_outcome ins o) → Finds rep o r → r ≡ None
finds_none rep o ins None t f = refl
finds_none rep o ins (Some m) t f = absurd (f.1 (same_tells rep o ins t))
