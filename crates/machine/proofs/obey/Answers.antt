use Rattle.reader.proofs.Hearing.{loads_read, alarms_asked, end_asked}
use Rattle.std.proofs.Common.{arith}
use Rattle.machine.proofs.Stepping.{obeyed_load, obeyed_alarms, obeyed_end, obeyed_nothing, variable_small}
use Rattle.machine.proofs.obey.Goals as goal

pub show_end-requires : goal.show_end-requires
show_end-requires c = (variable_small c.args.text.now c.in-AtEnd.x (end_asked _ _ _ c.in-AtEnd.is c.in-Some.ensures), omega arith)

pub returns-in-Load : goal.returns-in-Load
returns-in-Load c =
    let l = (loads_read _ _ _ c.in-Load.is c.in-Some.ensures) in
    obeyed_load c.args.memory.now c.args.text.now c.args.out.now c.load.new.memory c.in-Load.header l (omega arith) (c.load.ensures l)

pub returns-in-Alarms : goal.returns-in-Alarms
returns-in-Alarms c =
    obeyed_alarms c.args.memory.now c.args.text.now c.args.out.now c.show_from.new.memory c.show_from.new.out c.show_from.result
    (alarms_asked _ _ c.in-Alarms.is c.in-Some.ensures) c.show_from.ensures

pub returns-in-AtEnd : goal.returns-in-AtEnd
returns-in-AtEnd c =
    obeyed_end c.args.memory.now c.args.text.now c.args.out.now c.show_end.new.memory c.show_end.new.out c.in-AtEnd.x c.show_end.result
    (end_asked _ _ _ c.in-AtEnd.is c.in-Some.ensures) c.show_end.ensures

pub returns-in_default : goal.returns-in_default
returns-in_default c = obeyed_nothing c.args.memory.now c.args.text.now c.args.out.now c.in_default.ensures
