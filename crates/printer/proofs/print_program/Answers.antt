use Rattle.std.proofs.Common.{◌∙◌}
use Rattle.reader.proofs.Hearing.{loads_read}
use Rattle.printer.proofs.Programs.{program_printed, no_program, no_command}
use Rattle.printer.proofs.print_program.Goals as goal

pub print_loaded-requires : goal.print_loaded-requires
print_loaded-requires c = loads_read _ _ _ c.in-Load.is c.in-Some.ensures

pub returns-in-Load : goal.returns-in-Load
returns-in-Load c =
    let l = loads_read _ _ _ c.in-Load.is c.in-Some.ensures in
    program_printed _ _ _ _ (c.as_slice-text.ensures.value ∙ c.in_ok-command.ensures) l (c.in_ok-print_loaded-in-Load.ensures l)

pub returns : goal.returns
returns c = no_program _ _ _ (c.as_slice-text.ensures.value ∙ c.in_ok-command.ensures) c.in-Some.ensures c.in_default-request.not-Load

pub returns-in_default : goal.returns-in_default
returns-in_default c = no_command _ _ (c.as_slice-text.ensures.value ∙ c.in_ok-command.ensures) c.in_default.ensures
