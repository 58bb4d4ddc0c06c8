-- What the machine promises, for every choice of known commands. Rests on the analysis, in which nothing is missed.
use Rattle.std.proofs.Common.{Bool}
use Rattle.program.specs.Command.{Command, empty_program}
use Rattle.analysis.specs.Statements.{MissesNothing}
use Rattle.analysis.proofs.Missed.{misses_nothing}
use Rattle.model.specs.Promise.{Whole}
use Rattle.model.specs.Memory.{memory_size, zeros}
use Rattle.model.specs.Machine.{machine}
use Rattle.model.specs.Session.{StartStands}
use Rattle.model.proofs.Steadily.{steadily}
use Rattle.model.proofs.Rightly.{rightly}
use Rattle.model.proofs.Start.{start_stands}

pub whole_known : (known : Command → Bool) → Whole known (machine known)
unfolding Whole StartStands MissesNothing
whole_known known = (steadily known, λ ts l. rightly known ts (zeros memory_size) empty_program start_stands, λ p v k. misses_nothing p v)
