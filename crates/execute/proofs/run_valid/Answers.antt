use Rattle.std.proofs.Common.{◌≡◌, ℕ, true, List, sym}
use Rattle.program.specs.Syntax.{Program}
use Rattle.program.specs.Command.{load, encode, valid}
use Rattle.runner.specs.Starting.{Loads}
use Rattle.execute.proofs.run_valid.Goals as goal

-- the bytes load the program that is held
loads_held : (text : List ℕ) (p : Program) → text ≡ encode (load p) → valid (load p) ≡ true → Loads text p
unfolding valid
loads_held text p e v = record { valid = v; text_is = sym e }

-- the runner does not refuse it
pub unreachable-requires : goal.unreachable-requires
unreachable-requires c =
    let refused = rw c.in-Err-NoProgram.field-0-is at c.in-Err-NoProgram.ensures in
    refused _ (loads_held _ _ c.bytes.ensures c.args.program.now.loads.1)

pub returns-in-Ok : goal.returns-in-Ok
returns-in-Ok c = c.in-Ok.ensures _ (loads_held _ _ c.bytes.ensures c.args.program.now.loads.1)
