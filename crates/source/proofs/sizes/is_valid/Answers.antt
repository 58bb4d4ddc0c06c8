use Rattle.std.proofs.Common.{sym, ◌∙◌}
use Rattle.source.proofs.Counting.{encodes_from, encodes_same}
use Rattle.source.proofs.sizes.is_valid.Goals as goal

pub returns : goal.returns
returns c = λ e.
    encodes_same _ c.in-Some.found c.args.sizes (sym c.eq.ensures ∙ e)
    (encodes_from _ _ _ c.in-Some.ensures (c.as_slice.ensures.value ∙ c.in_ok-command.ensures))
