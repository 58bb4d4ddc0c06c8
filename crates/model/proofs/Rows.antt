-- A row that a step shows has at most sixteen bytes. Rests on the definitions alone.
use Rattle.std.proofs.Common.{ℕ, ◌≤◌, Bool, true, false, cond, eqb, ltb, List, length, get_or, set, arith}
use Rattle.program.specs.Command.{Command, load, all_alarms, at_end, everything}
use Rattle.encoding.specs.Reader.{Heard, nothing, heard, hear}
use Rattle.model.specs.Promise.{Event, command, next, Act, shows, done, refused, Step}
use Rattle.model.specs.Memory.{slots}
use Rattle.model.specs.Machine.{Found, nowhere, found, stepped, on_found, mark_from, bounds_row, show_end, on_command, on_heard, on_event}
use Rattle.model.specs.Entry.{own}
use Rattle.model.proofs.Owed.{length_slot_row, length_bounds_row}

-- a row, if one is shown, has at most sixteen bytes
abbrev pub RowShort : Act → Type 0
RowShort (shows s) = length s ≤ 16
RowShort done = Unit {0}
RowShort (refused k) = Unit {0}

found_short : (m : List ℕ) (f : Found) → RowShort (on_found m f).act
unfolding on_found
found_short m nowhere = tt
found_short m (found i) = omega (arith, length_slot_row i)

either_short : (b : Bool) (s u : Step) → RowShort s.act → RowShort u.act → RowShort (cond b s u).act
either_short true s u h g = h
either_short false s u h g = g

end_short : (m : List ℕ) (x : ℕ) → RowShort (show_end m x).act
unfolding show_end
end_short m x =
    either_short (ltb x (get_or m 0 0)) (cond (eqb (get_or m 1 0) 0) (stepped (set m 2 slots) (shows (bounds_row m x))) (stepped m done)) (stepped m (refused 3))
    (either_short (eqb (get_or m 1 0) 0) (stepped (set m 2 slots) (shows (bounds_row m x))) (stepped m done) (omega (arith, length_bounds_row m x)) tt) tt

command_short : (m : List ℕ) (c : Command) → RowShort (on_command m c).act
unfolding on_command
command_short m (load p) = tt
command_short m all_alarms = found_short m (mark_from m 0)
command_short m (at_end x) = end_short m x

heard_short : (m : List ℕ) (h : Heard) → RowShort (on_heard everything m h).act
unfolding on_heard
heard_short m nothing = tt
heard_short m (heard c) = command_short m c

pub step_short : (m : List ℕ) (ev : Event) → RowShort (own.step m ev).act
unfolding on_event
step_short m (command t) = heard_short m (hear t)
step_short m next = found_short m (mark_from m (get_or m 2 0))
