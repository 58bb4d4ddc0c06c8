use Rattle.std.proofs.Common.{arith}
use Rattle.state.specs.Of.{as_abstract}
use Rattle.tables.proofs.Storing.{memory_put}
use Rattle.tables.proofs.results.store.Goals as goal

pub returns : goal.returns
returns c =
    memory_put c.args.memory.now c.store_ends.new.words c.copy_from_slice.new.self c.args.table.now c.clear.new.words c.args.vars c.no_end.result
    (as_abstract c.args.state.now) (omega arith) (omega arith) c.no_end.ensures c.store_ends.ensures c.copy_from_slice.ensures.after c.clear.ensures
