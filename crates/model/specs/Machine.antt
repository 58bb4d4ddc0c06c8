-- The machine: its steps on a memory of numbers. Assumes nothing: these are definitions.
use Rattle.std.specs.Prelude.{ℕ, suc, ◌+◌, ◌*◌, Bool, cond, List, [], ◌∷◌, ◌++◌, take, drop, ◌==◌, nat_lt, slice_index, slice_set}
use Rattle.program.specs.Basics.{eight}
use Rattle.program.specs.Command.{Command, load, all_alarms, at_end}
use Rattle.encoding.specs.Reader.{Heard, nothing, heard, hear}
use Rattle.model.specs.Promise.{Event, command, next, Act, shows, done, refused, Step, Machine}
use Rattle.model.specs.Memory.{slots, memory_size, zeros, slot_stmt, slot_kind, laid}

-- such a step
abbrev pub stepped : List ℕ → Act → Step
stepped m a = record { memory = m; act = a }

-- the first words replaced by others, the length kept
unfoldable pub overwrite : List ℕ → List ℕ → List ℕ
overwrite [] ws = []
overwrite (m ∷ ms) [] = m ∷ ms
overwrite (m ∷ ms) (w ∷ ws) = w ∷ overwrite ms ws

-- the slot that was looked for, if there is one
pub data Found : Type 0 where
  nowhere : Found
  found : ℕ → Found

-- the first slot that is not 0, where these are the slots from the i-th on
unfoldable pub first_mark : List ℕ → ℕ → Found
first_mark [] i = nowhere
first_mark (w ∷ ws) i = cond (w == 0) (first_mark ws (suc i)) (found i)

-- the alarm table of a memory
abbrev pub table_of : List ℕ → List ℕ
table_of m = take slots (drop 163 m)

-- an alarm as bytes: the statement, then the kind
abbrev pub slot_row : ℕ → List ℕ
slot_row i = eight (slot_stmt i) ++ slot_kind i ∷ []

-- the alarm is shown and the cursor moved behind it; or the command ends, the cursor behind the last slot
unfoldable pub on_found : List ℕ → Found → Step
on_found m nowhere = stepped (slice_set m 2 slots) done
on_found m (found i) = stepped (slice_set m 2 (suc i)) (shows (slot_row i))

-- the first marked slot from c on
unfoldable pub mark_from : List ℕ → ℕ → Found
mark_from m c = first_mark (drop c (table_of m)) c

-- the first alarm from slot c on
abbrev pub show_from : List ℕ → ℕ → Step
show_from m c = on_found m (mark_from m c)

-- variable x's interval at the end, as bytes
abbrev pub bounds_row : List ℕ → ℕ → List ℕ
bounds_row m x = eight (slice_index m (3 + 2 * x)) ++ eight (slice_index m (4 + 2 * x))

-- a variable's interval at the end is shown and the cursor moved behind the last slot; nothing is shown if no run comes to an end
unfoldable pub show_end : List ℕ → ℕ → Step
show_end m x =
    cond (nat_lt x (slice_index m 0)) (cond (slice_index m 1 == 0) (stepped (slice_set m 2 slots) (shows (bounds_row m x))) (stepped m done)) (stepped m (refused 3))

-- a command that is known
unfoldable pub on_command : List ℕ → Command → Step
on_command m (load p) = stepped (overwrite m (laid 0 p)) done
on_command m all_alarms = show_from m 0
on_command m (at_end x) = show_end m x

-- a text that encodes no command is refused with 1, a command that is not known with 2
unfoldable pub on_heard : (Command → Bool) → List ℕ → Heard → Step
on_heard known m nothing = stepped m (refused 1)
on_heard known m (heard c) = cond (known c) (on_command m c) (stepped m (refused 2))

-- one step
unfoldable pub on_event : (Command → Bool) → List ℕ → Event → Step
on_event known m (command t) = on_heard known m (hear t)
on_event known m next = show_from m (slice_index m 2)

-- the machine that knows these commands
abbrev pub machine : (Command → Bool) → Machine
machine known = record { start = zeros memory_size; step = on_event known }
