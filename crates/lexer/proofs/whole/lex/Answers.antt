use Rattle.std.proofs.lemmas.Result.{err_from_is_err_and}
use Rattle.lexer.specs.Pieces.{as_piece}
use Rattle.lexer.proofs.Steps.{begun_empty, one_pushed, wrong_there, all_read}
use Rattle.lexer.proofs.whole.lex.Goals as goal

pub loop-at-init : goal.loop-at-init
loop-at-init c =
    begun_empty c.args.text.now c.as_bytes.result.now c.blanks_end-at.result _ _ _ c.as_bytes.ensures.value c.blanks_end-at.ensures.is c.blanks_end-at.ensures.within
    c.new-starts.ensures.items c.new-tokens.ensures.items c.new-words.ensures.items

pub loop-at-preserved : goal.loop-at-preserved
loop-at-preserved c =
    one_pushed c.args.text.now c.as_bytes-in-loop-at.result.now c.loop-at.at c.in_ok-piece.end c.blanks_end-at-in-loop-at.result _ _ _ _ _ _ (as_piece c.in_ok-piece.piece) c.in_ok-token_of.field-0
    c.as_bytes-in-loop-at.ensures.value c.loop-at.invariant c.loop-at-test.true c.in_ok-piece.ensures.ends.0 c.in_ok-piece.ensures.is c.in_ok-token_of.ensures
    c.blanks_end-at-in-loop-at.ensures.is c.blanks_end-at-in-loop-at.ensures.within
    c.in_ok-push-2.ensures.items c.in_ok-push.ensures.items

pub returns-in_err-piece : goal.returns-in_err-piece
returns-in_err-piece c =
    let p = err_from_is_err_and c.from_residual.result c.from_residual.ensures.1 in
    rw (p.1, p.2) (wrong_there c.args.text.now c.loop-at.at _ _ _ c.in_err-piece.field-0.0 c.loop-at.invariant c.loop-at-test.true c.in_err-piece.ensures.is c.in_err-piece.ensures.ends)

pub returns : goal.returns
returns c = all_read c.args.text.now c.loop-at.at _ _ _ c.loop-at.invariant c.loop-at-test.false
