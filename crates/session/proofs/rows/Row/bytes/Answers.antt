use Rattle.std.proofs.Common.{ℕ, List, [], ◌∷◌, ◌++◌, sym, ap, ◌∙◌}
use Rattle.std.proofs.lemmas.Result.{IfOk-weaker}
use Rattle.encoding.proofs.Words.{eight_is}
use Rattle.session.proofs.rows.Row.bytes.Goals as goal

pub returns-in-Alarm : goal.returns-in-Alarm
returns-in-Alarm c =
    let a = c.to_be_bytes.ensures ∙ sym (eight_is c.in-Alarm.stmt) in
    rw c.in-Alarm.is (IfOk-weaker c.joined.result _ _ (λ v e. e ∙ ap (λ (xs : List ℕ). xs ++ c.in-Alarm.kind ∷ []) a) c.joined.ensures)

pub returns-in-Bounds : goal.returns-in-Bounds
returns-in-Bounds c =
    let a = c.to_be_bytes-in-Bounds.ensures ∙ sym (eight_is c.in-Bounds.lo) in
    let b = c.to_be_bytes-in-Bounds-2.ensures ∙ sym (eight_is c.in-Bounds.hi) in
    rw c.in-Bounds.is (IfOk-weaker c.joined-in-Bounds.result _ _ (λ v e. e ∙ (λ i. a i ++ b i)) c.joined-in-Bounds.ensures)
