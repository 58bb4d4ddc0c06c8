use Rattle.tables.proofs.Showing.{alarm_put}
use Rattle.tables.proofs.show.write_alarm.Goals as goal

pub returns : goal.returns
returns c = alarm_put c.args.out.now c.write_number.new.out c.args.slot c.requires.0 c.write_number.ensures
