use Rattle.task.proofs.Loaded.{task_ready}
use Rattle.machine.proofs.Analysing.{load_lays, cleared}
use Rattle.machine.proofs.load.load.Goals as goal

pub returns : goal.returns
returns c l =
    let o = c.task_of-task.ensures l in
    load_lays _ _ l _ _ _ _ _ o (cleared 10920) (c.analyse_body-state.ensures l.program.body o.rising (task_ready _ _ l _ o)) c.store.ensures
