-- A write within the list is a write of what it stands for.
use Rattle.interval.specs.Of.{as_interval}
use Rattle.std.proofs.lemmas.List.{map-set}
use Rattle.state.proofs.lists.put_at.Goals as goal

pub returns-then-i-list : goal.returns-then-i-list
returns-then-i-list c = map-set as_interval c.args.list.now c.args.i c.args.s
