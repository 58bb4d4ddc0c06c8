use Rattle.std.proofs.Common.{ℕ, sym, ◌∙◌, subst, arith}
use Rattle.evaluate.specs.Ready.{ExprReady}
use Rattle.walker.proofs.Parts.{store_index, store_value}
use Rattle.walker.proofs.Statements.{store_found, store_value_walked, store_never_walked}
use Rattle.walker.proofs.simple.store_at.Goals as goal

pub returns-in-Some : goal.returns-in-Some
returns-in-Some c n ms d h s =
    let index = (rw (c.code-code.ensures.text, c.code-code.ensures.lengths) at c.eval_here-index.ensures) s.a (store_index _ _ _ d h s) in
    let value = (rw (c.code-code.ensures.text, c.code-code.ensures.lengths) at c.eval_here-value.ensures) s.e (subst (λ (p : ℕ). ExprReady c.args.task.now.text.now p c.args.left s.e) (sym index.end) (store_value _ _ _ d h s)) in
    let both = store_found c.args.task.now.lengths.now ms n _ _ _ d h s _ _ _ _ _ _ c.byte_at-r.ensures c.length_at.ensures index.result value.result c.store_result-stored.ensures in
    store_value_walked _ ms n _ _ _ d h s _ _ _ _ _ _ _ _ c.in-Some.s c.word_at-stmt.ensures (c.byte_at-r.ensures ∙ s.r_is) both c.in-Some.is c.store.ensures c.mark_faults.ensures
    (omega (arith, index.end, value.end))

pub returns-in-None : goal.returns-in-None
returns-in-None c n ms d h s =
    let index = (rw (c.code-code.ensures.text, c.code-code.ensures.lengths) at c.eval_here-index.ensures) s.a (store_index _ _ _ d h s) in
    let value = (rw (c.code-code.ensures.text, c.code-code.ensures.lengths) at c.eval_here-value.ensures) s.e (subst (λ (p : ℕ). ExprReady c.args.task.now.text.now p c.args.left s.e) (sym index.end) (store_value _ _ _ d h s)) in
    let both = store_found c.args.task.now.lengths.now ms n _ _ _ d h s _ _ _ _ _ _ c.byte_at-r.ensures c.length_at.ensures index.result value.result c.store_result-stored.ensures in
    store_never_walked _ ms n _ _ _ d h s _ _ _ _ _ _ c.word_at-stmt.ensures both c.in-None.is c.mark_faults.ensures (omega (arith, index.end, value.end))
