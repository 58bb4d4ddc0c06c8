use Rattle.std.proofs.Common.{ltb, arith, rules}
use Rattle.std.proofs.lemmas.Grind.{common_steps}
use Rattle.std.proofs.lemmas.List.Sorted.{IsPartitionPoint-from_clause, IsPartitionedBy-ltb}
use Rattle.thresholds.proofs.Bisection.{first_is_above}
use Rattle.thresholds.proofs.bisect.find_above.Goals as goal

pub returns : goal.returns
returns c up =
    let point = IsPartitionPoint-from_clause (λ y. ltb y c.args.n) _ _ c.partition_point-i.ensures.partitioned (IsPartitionedBy-ltb (λ y. y) _ c.args.n up) (λ a r q k. search rules) in
    first_is_above _ _ _ c.unwrap_or.result _ up point (λ l. grind (arith, common_steps)) (λ l. grind (arith, common_steps)) c.min.ensures
