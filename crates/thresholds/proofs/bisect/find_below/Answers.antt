use Rattle.std.proofs.Common.{leb, arith, rules}
use Rattle.std.proofs.lemmas.Grind.{common_steps}
use Rattle.std.proofs.lemmas.List.Sorted.{IsPartitionPoint-from_clause, IsPartitionedBy-leb}
use Rattle.thresholds.proofs.Bisection.{last_is_below}
use Rattle.thresholds.proofs.bisect.find_below.Goals as goal

pub returns : goal.returns
returns c up =
    let point = IsPartitionPoint-from_clause (λ y. leb y c.args.n) _ _ c.partition_point-i.ensures.partitioned (IsPartitionedBy-leb (λ y. y) _ c.args.n up) (λ a r q k. search rules) in
    last_is_below _ _ _ _ up c.partition_point-i.ensures.bound point (λ l. grind (arith, common_steps)) (λ l. grind (arith, common_steps))
