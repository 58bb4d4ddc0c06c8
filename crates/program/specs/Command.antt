-- What the analyser can be asked, as bytes, and which of it is valid. Assumes nothing: these are definitions.
use Rattle.std.specs.Prelude.{Bool, true, ◌&&◌, List, [], ◌∷◌, ℕ, ltb}
use Rattle.program.specs.Basics.{is_empty}
use Rattle.program.specs.Syntax.{skip, Program}
use Rattle.program.specs.Encoding.{encode_program}
use Rattle.program.specs.Validity.{valid_program, loop_free}

-- what the analyser is asked
pub data Command : Type 0 where
  load : Program → Command
  all_alarms : Command
  at_end : ℕ → Command  -- a name: where it may lie, if it comes to an end

-- a command as bytes
unfoldable pub encode : Command → List ℕ
encode (load p) = 1 ∷ encode_program p
encode all_alarms = 2 ∷ []
encode (at_end x) = 3 ∷ x ∷ []

-- a valid command
unfoldable pub valid : Command → Bool
valid (load p) = valid_program p
valid all_alarms = true
valid (at_end x) = ltb x 64

-- commands that are known without loops and arrays
unfoldable pub core : Command → Bool
core (load p) = is_empty p.arrays && loop_free p.body
core all_alarms = true
core (at_end x) = true

-- every command is known
abbrev pub everything : Command → Bool
everything c = true

-- the program that does nothing
abbrev pub empty_program : Program
empty_program = record { vars = 0; arrays = []; body = skip }
