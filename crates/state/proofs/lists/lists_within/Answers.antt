-- The chain's answer is that all pairs lie within one another.
use Rattle.std.proofs.Common.{◌∙◌, rules}
use Rattle.std.proofs.lemmas.Iterator.{YieldsList-from_slice, YieldsList-from_zip}
use Rattle.std.proofs.lemmas.Iterator.Search.{all_from_yields_List}
use Rattle.interval.specs.Interval.{within_interval}
use Rattle.interval.specs.Of.{as_interval}
use Rattle.state.proofs.Intervals.{within-zip}
use Rattle.state.proofs.lists.lists_within.Goals as goal
use borrow.Author.Tests.{tests}

pub returns : goal.returns
returns c =
    let pairs = YieldsList-from_zip {s = c.zip.result} (YieldsList-from_slice c.args.list.now cc) (YieldsList-from_slice c.args.other.now cc) in
    all_from_yields_List (λ p. within_interval (as_interval p.0) (as_interval p.1)) c.all.new.self _ c.all.result c.all.ensures.ran pairs (λ x b q k. search (rules, tests))
    ∙ within-zip c.args.list.now c.args.other.now c.requires
