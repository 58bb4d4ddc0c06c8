-- What stands before the first line end from `at` on, by where it stands in the whole text.
use Rattle.std.proofs.Common.{◌≡◌, ◌+◌, ◌-◌, arith}
use Rattle.std.proofs.lemmas.Grind.{common_steps}
use Rattle.place.proofs.find_end.Goals as goal

pub returns-clause-inside : goal.returns-clause-inside
returns-clause-inside c k a b e =
    let h : c.args.at + (k - c.args.at) ≡ k = omega arith in
    c.line_len.ensures.inside (k - c.args.at) (omega arith) (grind (arith, common_steps))
