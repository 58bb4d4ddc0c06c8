use Rattle.std.proofs.Common.{length}
use Rattle.source.proofs.Exits.{reads_err}
use Rattle.source.proofs.Places.{ascending_within}
use Rattle.source.proofs.whole.read_text.Goals as goal

pub returns-in_err-lexed : goal.returns-in_err-lexed
returns-in_err-lexed c = reads_err _ _ c.args.text.now (λ e p. p c.args.text.now c.in_err-lexed.ensures) c.from_residual.ensures.1

pub read_tokens-requires : goal.read_tokens-requires
read_tokens-requires c = ascending_within 0 (length c.args.text.now) c.in_ok-lexed.lexed.starts.items c.in_ok-lexed.ensures.ascending
