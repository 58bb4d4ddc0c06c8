use Rattle.std.proofs.Common.{take}
use Rattle.thresholds.specs.Collecting.{length_thresholds, SameLoans, Writes}
use Rattle.thresholds.proofs.table.Collector.push_lengths.Given as goal

abbrev pub invariant-loop-n : goal.invariant-loop-n
invariant-loop-n l = record { same : SameLoans l.initial.self l.self; writes : Writes (length_thresholds (take l.n-index l.lengths)) l.initial.self l.self }
