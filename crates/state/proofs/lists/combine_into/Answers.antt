-- Once every place is passed, the list is the zip of the two.
use Rattle.std.proofs.Common.{arith}
use Rattle.state.proofs.Intervals.{zip_at}
use Rattle.state.proofs.lists.combine_into.Goals as goal

pub returns : goal.returns
returns g c op computes =
    zip_at op c.loop-i.list c.args.list.now c.args.other.now c.loop-i.auto.list c.requires.same_length
    (λ k d h. computes _ _ _ (c.loop-i.invariant.0 k d (omega arith)))
