-- The program that a text loads. Assumes nothing: these are definitions.
use Rattle.std.specs.Prelude.{ℕ, List}
use Rattle.program.specs.Syntax.{Program}
use Rattle.program.specs.Command.{Command, load, all_alarms, at_end, empty_program}
use Rattle.encoding.specs.Reader.{Heard, nothing, heard, hear}

-- the program that a command loads; one that loads none counts as the program that does nothing
abbrev pub command_program : Command → Program
command_program (load p) = p
command_program all_alarms = empty_program
command_program (at_end x) = empty_program

abbrev pub heard_program : Heard → Program
heard_program nothing = empty_program
heard_program (heard c) = command_program c

-- the program that the text loads
abbrev pub program_of : List ℕ → Program
program_of text = heard_program (hear text)
