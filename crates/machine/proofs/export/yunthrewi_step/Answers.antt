use Rattle.model.specs.Entry.{step_fits}
use Rattle.machine.proofs.Coding.{says_short}
use Rattle.machine.proofs.export.yunthrewi_step.Goals as goal

pub code_of-requires : goal.code_of-requires
code_of-requires c = says_short (step_fits c.args.memory.now c.args.kind c.args.out.now) _ _ _ _ _ _ _ c.step.ensures

pub returns : goal.returns
returns c = record { told = c.step.result; says = c.step.ensures; code = c.code_of.ensures }
