-- The element within the list, and 0 to 0 past its end.
use Rattle.std.proofs.Common.{arith}
use Rattle.std.proofs.lemmas.Grind.{common_steps}
use Rattle.std.proofs.lemmas.Option.{gets}
use Rattle.state.proofs.Intervals.{nth_or}
use Rattle.state.proofs.lists.interval_at.Goals as goal

pub returns : goal.returns
returns c = let is = nth_or c.args.list.now c.args.i c.zero.result c.zero.ensures in grind (arith, common_steps, gets)
