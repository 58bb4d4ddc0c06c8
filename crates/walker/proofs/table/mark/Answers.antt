use Rattle.std.proofs.Common.{sym}
use Rattle.std.proofs.lemmas.List.{set_past}
use Rattle.walker.proofs.table.mark.Goals as goal

pub returns-else-slot-table : goal.returns-else-slot-table
returns-else-slot-table c = rw c.if-not-there.false (sym (set_past c.args.table.now c.args.slot 1 c.if-slot-table.false))
