use Rattle.std.proofs.Common.{◌∙◌, arith}
use Rattle.valid.proofs.Loading.{variables_there, two_bytes}
use Rattle.valid.proofs.held.ValidProgram.variables.Goals as goal

pub index-requires : goal.index-requires
index-requires c = let l = two_bytes _ _ c.args.self.now.loads.0 in omega (arith, c.args.self.now.bytes.ok.0)

pub returns : goal.returns
returns c = c.index.ensures ∙ variables_there _ _ c.args.self.now.loads.0 _
