use Rattle.std.proofs.Common.{sym, refl, ap, ◌∙◌, arith}
use Rattle.std.proofs.lemmas.List.{length-map}
use Rattle.interval.specs.Of.{as_interval}
use Rattle.model.specs.Memory.{bounds}
use Rattle.state.specs.Of.{as_intervals}
use Rattle.state.proofs.Intervals.{nth_within}
use Rattle.tables.proofs.Storing.{bounds_put, bounds_all}
use Rattle.tables.proofs.results.store_intervals.Goals as goal

pub loop-i-init : goal.loop-i-init
unfolding bounds
loop-i-init c = refl

pub loop-i-preserved : goal.loop-i-preserved
loop-i-preserved c =
    let list = c.args.list.now in
    let i = c.loop-i.i in
    bounds_put c.loop-i.words c.args.words.now (as_intervals list) i _ _ (omega (arith, length-map list as_interval)) (omega (arith, length-map list as_interval))
    (ap (λ s. s.lo) (sym (nth_within list i c.index-list-i.result c.loop-i-test.true)) ∙ ap (λ x. (as_interval x).lo) (sym c.index-list-i.is))
    (ap (λ s. s.hi) (sym (nth_within list i c.index-list-i.result c.loop-i-test.true)) ∙ ap (λ x. (as_interval x).hi) (sym c.index-list-i.is))
    c.loop-i.invariant

pub returns : goal.returns
returns c =
    bounds_all c.loop-i.words c.args.words.now (as_intervals c.args.list.now) c.loop-i.i _ c.requires c.loop-i-test.false c.loop-i.auto.i-end c.loop-i.invariant
