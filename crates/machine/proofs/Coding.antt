-- What a step tells fits one number: its rows are short. Rests on model's rows.
use Rattle.std.proofs.Common.{ℕ, Bool, true, false, List, sym, subst}
use Rattle.model.specs.Promise.{Act, shows, done, refused}
use Rattle.model.specs.Entry.{own, event_of}
use Rattle.model.proofs.Rows.{RowShort, step_short}
use Rattle.tables.specs.declared.types.Told.{Told}
use Rattle.tables.specs.Telling.{ActTold}
use Rattle.machine.specs.Entry.{StepSays}
use Rattle.machine.specs.Export.{Short}

act_short : (a : Act) (r : Told) (out out₁ : List ℕ) → RowShort a → ActTold a r out out₁ → Short r
unfolding ActTold
act_short (shows s) r out out₁ h e = subst (λ (t : Told). Short t) (sym e.0) h
act_short done r out out₁ h e = subst (λ (t : Told). Short t) (sym e.0) tt
act_short (refused k) r out out₁ h e = subst (λ (t : Told). Short t) (sym e.0) tt

pub says_short : (b : Bool) (m : List ℕ) (kind : ℕ) (text out : List ℕ) (r : Told) (m₁ out₁ : List ℕ) → StepSays m kind text out b r m₁ out₁ → Short r
unfolding StepSays
says_short true m kind text out r m₁ out₁ h =
    act_short (own.step m (event_of kind text)).act r out out₁ (step_short m (event_of kind text)) h.1
says_short false m kind text out r m₁ out₁ h = subst (λ (t : Told). Short t) (sym h.0) tt
