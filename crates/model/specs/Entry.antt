-- How a step of the whole machine is asked for. Assumes nothing: these are definitions.
use Rattle.std.specs.Prelude.{ℕ, Bool, cond, ◌&&◌, List, length, ◌==◌, nat_le}
use Rattle.program.specs.Command.{everything}
use Rattle.model.specs.Promise.{Event, command, next, Machine}
use Rattle.model.specs.Machine.{machine}

-- the machine that knows every command
abbrev pub own : Machine
own = machine everything

-- kind 0 is a command with its text, any other to go on
abbrev pub event_of : ℕ → List ℕ → Event
event_of k bs = cond (k == 0) (command bs) next

-- a memory of the machine's length, a kind of 0 or 1, and sixteen bytes to show a row in
unfoldable pub step_fits : (memory : List ℕ) (kind : ℕ) (out : List ℕ) → Bool
step_fits memory kind out = length memory == length own.start && (nat_le kind 1 && nat_le 16 (length out))
