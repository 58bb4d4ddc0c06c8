use Rattle.std.proofs.Common.{refl}
use Rattle.tables.proofs.Showing.{shown_found, shown_nowhere}
use Rattle.tables.proofs.show.show_from.Goals as goal

pub returns-in-Some : goal.returns-in-Some
returns-in-Some c =
    shown_found c.args.memory.now _ c.args.out.now c.write_alarm.new.out c.args.cursor c.in-Some.i
    c.in-Some.ensures.0 refl c.write_alarm.ensures

pub returns-in-None : goal.returns-in-None
returns-in-None c = shown_nowhere c.args.memory.now _ c.args.out.now c.args.cursor c.in-None.ensures refl
