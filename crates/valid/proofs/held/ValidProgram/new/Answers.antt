use Rattle.std.proofs.Common.{◌≡◌, ℕ, List, Some, refl, subst}
use Rattle.program.specs.Syntax.{Program}
use Rattle.program.specs.Command.{load}
use Rattle.reader.specs.Request.{EncodingOf, Reads}
use Rattle.reader.proofs.Hearing.{loads_read}
use Rattle.valid.specs.Loaded.{program_of}
use Rattle.valid.proofs.Loading.{of_heard, no_load}
use Rattle.valid.proofs.held.ValidProgram.new.Goals as goal

loads_this : (text bytes : List ℕ) (p : Program) → text ≡ bytes → EncodingOf (load p) text → EncodingOf (load (program_of bytes)) bytes
loads_this text bytes p e h = of_heard bytes p (subst (λ (ts : List ℕ). EncodingOf (load p) ts) e h)

pub invariant_of-result : goal.invariant_of-result
invariant_of-result c = let h = loads_read _ _ _ c.in-Load.is c.in_ok-read_command.ensures in record { loads = loads_this _ _ h.program c.as_slice.ensures.value h.encoded }

pub returns-in-Load : goal.returns-in-Load
returns-in-Load c = let h = loads_read _ _ _ c.in-Load.is c.in_ok-read_command.ensures in (refl, loads_this _ _ h.program c.as_slice.ensures.value h.encoded)

pub returns-in_default : goal.returns-in_default
returns-in_default c p h = no_load _ c.in_ok-read_command.field-0 (subst (λ (ts : List ℕ). Reads ts (Some c.in_ok-read_command.field-0)) c.as_slice.ensures.value c.in_ok-read_command.ensures) c.in_default.not-Load p h

pub returns-in_err-read_command : goal.returns-in_err-read_command
returns-in_err-read_command c = rw c.from_residual.ensures (λ p h. c.in_err-read_command.ensures (load p) (rw c.as_slice.ensures.value h))
