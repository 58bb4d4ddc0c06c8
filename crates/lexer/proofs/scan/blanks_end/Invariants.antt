-- The white space from here ends where all of it ends, and none begins here.
use Rattle.std.proofs.Common.{◌≡◌, ◌-◌, ◌<◌, ◌≤◌, false, length, get_or}
use Rattle.lexer.specs.Lexing.{white, past_blanks}
use Rattle.lexer.proofs.scan.blanks_end.Given as goal

abbrev pub invariant-loop-at : goal.invariant-loop-at
invariant-loop-at l = record {
  within : l.at ≤ length l.bytes;
  same : past_blanks l.bytes l.at ≡ past_blanks l.bytes l.from;
  stops : l.at < length l.bytes → white (get_or l.bytes l.at 0) ≡ false;
}

abbrev pub decreases-loop-at : goal.decreases-loop-at
decreases-loop-at l = length l.bytes - l.at
