use Rattle.machine.proofs.Stepping.{gone_on}
use Rattle.machine.proofs.go_on.Goals as goal

pub returns : goal.returns
returns c = gone_on c.args.memory.now c.args.out.now c.show_from.new.memory c.show_from.new.out c.show_from.result c.show_from.ensures
