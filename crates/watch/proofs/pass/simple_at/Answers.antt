-- The number is read, the state noted, and the statement gone through as in the analysis.
use Rattle.std.proofs.Common.{ℕ, sym, refl, ap, ◌∙◌}
use Rattle.encoding.proofs.Parts.{stmt_at}
use Rattle.state.specs.Of.{as_abstract}
use Rattle.walker.proofs.Statements.{number_is}
use Rattle.watch.specs.Watch.{noted}
use Rattle.watch.proofs.Watching.{noted_by}
use Rattle.watch.proofs.pass.simple_at.Goals as goal

pub returns : goal.returns
returns c parts d rising ready =
    let w = c.analyse_at.ensures d rising ready in
    let s = noted_by c.args.watch.now.task.text.now _ _ _ _ c.args.pos c.args.left d ready _ (stmt_at _ _ d _ ready.stands refl) parts in
    let p-is = number_is _ _ s.p _ s.number s.low c.word_at.ensures in
    record {
      out = w.out;
      seen = c.note.ensures ∙ ap (λ (q : ℕ). noted c.args.watch.now.stmt q (as_abstract c.args.state.now) (as_abstract c.args.seen.now)) p-is ∙ sym (s.simple _ _);
      end = w.end;
    }
