use Rattle.std.proofs.Common.{sym, ◌∙◌}
use Rattle.valid.proofs.held.ValidProgram.bytes.Goals as goal

pub returns : goal.returns
returns c = c.as_slice.ensures.value ∙ sym c.args.self.now.loads.0
