use Rattle.std.proofs.Common.{ℕ, List, drop, ap, ◌∙◌, arith}
use Rattle.valid.proofs.Loading.{program_behind, two_bytes}
use Rattle.valid.proofs.held.ValidProgram.program.Goals as goal

pub split_at-requires : goal.split_at-requires
split_at-requires c = let l = two_bytes _ _ c.args.self.now.loads.0 in omega (arith, c.as_slice.ensures.len, c.args.self.now.bytes.ok.0)

pub returns : goal.returns
returns c =
    c.split_at.ensures.back ∙ ap (λ (ts : List ℕ). drop 1 ts) c.as_slice.ensures.value ∙ program_behind _ _ c.args.self.now.loads.0
