use Rattle.std.proofs.Common.{rules, ◌+◌, ap, ◌∙◌, drop, length, arith}
use Rattle.std.proofs.lemmas.Iterator.{YieldsList-from_slice}
use Rattle.std.proofs.lemmas.Iterator.Search.{YieldsList-from_take_while}
use Rattle.std.proofs.lemmas.Iterator.Consumers.{count_from_yields_List}
use Rattle.std.proofs.lemmas.List.Folds.{length-prefix_len}
use Rattle.std.specs.Slice.Iter.{iter_rest}
use Rattle.std.proofs.lemmas.Slice.{between_to_end}
use Rattle.lexer.proofs.scan.run_end.Goals as goal

pub returns-clause-is : goal.returns-clause-is
returns-clause-is g c p t =
    let xs = drop c.args.from c.args.bytes.now in
    ap (λ n. c.args.from + n) (
    count_from_yields_List c.take_while.result c.count.result c.count.ensures.ran
    (YieldsList-from_take_while _ p (YieldsList-from_slice xs (ap iter_rest c.take_while.ensures.source ∙ c.iter.ensures.rest ∙ between_to_end c.args.bytes.now c.args.from (length c.args.bytes.now) (omega arith))) c.take_while.ensures.closure c.take_while.ensures.done (λ x b q k. search (rules, t)))
    ∙ length-prefix_len p xs
    )
