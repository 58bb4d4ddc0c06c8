use Rattle.std.proofs.Common.{◌≡◌, ℕ, length, ap, ◌∙◌, arith}
use Rattle.model.specs.Memory.{bounds}
use Rattle.state.specs.Of.{as_intervals, as_env, as_abstract}
use Rattle.tables.proofs.Storing.{ends_cleared, ends_put}
use Rattle.tables.proofs.results.store_ends.Goals as goal

pub returns-in-Unreached : goal.returns-in-Unreached
returns-in-Unreached c =
    ends_cleared c.clear.new.words (length c.args.words.now) (as_abstract c.args.state.now) (ap as_abstract c.in-Unreached.is) c.requires c.clear.ensures

pub returns-in-Reached : goal.returns-in-Reached
returns-in-Reached c =
    let w = c.in-Reached.w in
    let k : length w.values ≡ 64 = omega arith in
    let l : length w.arrays ≡ 16 = omega arith in
    ends_put c.args.words.now c.store_intervals.new.words c.store_intervals-in-Reached.new.words (as_env w) (as_abstract c.args.state.now)
    (ap as_abstract c.in-Reached.is) c.requires
    (c.store_intervals.ensures ∙ ap (λ (n : ℕ). bounds n (as_intervals w.values)) k)
    (c.store_intervals-in-Reached.ensures ∙ ap (λ (n : ℕ). bounds n (as_intervals w.arrays)) l)
