-- The commands so far and the rest are the file, in this way only.
use Rattle.std.proofs.Common.{length, vec_items}
use Rattle.script.specs.Script.{contents}
use Rattle.script.proofs.Joined.{SplitSo}
use Rattle.script.proofs.split.split_commands.Given as goal

abbrev pub invariant-loop-rest : goal.invariant-loop-rest
invariant-loop-rest l = SplitSo l.initial.rest l.rest (contents (vec_items l.commands))

abbrev pub decreases-loop-rest : goal.decreases-loop-rest
decreases-loop-rest l = length l.rest
