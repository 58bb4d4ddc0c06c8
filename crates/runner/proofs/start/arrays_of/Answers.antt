use Rattle.std.proofs.Common.{ℕ, List, vec_items, Vec, ap, ◌∙◌, arith}
use Rattle.std.specs.declared.alloc.Global.{Global}
use Rattle.program.specs.Basics.{map}
use Rattle.runner.proofs.Loading.{length_is, length_small, arrays_more, arrays_all}
use Rattle.runner.proofs.start.arrays_of.Goals as goal

pub returns-then-length-gt-ELEMENTS : goal.returns-then-length-gt-ELEMENTS
returns-then-length-gt-ELEMENTS c ns h =
    omega (arith, length_is _ _ ns h _ _ c.loop-i-test.true c.word_at-length.ensures, length_small _ _ ns h c.loop-i.i c.loop-i-test.true)

pub loop-i-preserved : goal.loop-i-preserved
loop-i-preserved c = (
  omega (arith, c.in_ok-push.ensures.len, c.loop-i.invariant.0),
  λ ns h.
      ap (λ (rows : List (Vec ℕ Global)). map vec_items rows) c.in_ok-push.ensures.items
      ∙ arrays_more vec_items (vec_items c.loop-i.arrays) ns c.loop-i.i c.word_at-length.result c.in_ok-vec.field-0 (omega (arith, h.count_is, c.loop-i-test.true))
      (length_is _ _ ns h _ _ c.loop-i-test.true c.word_at-length.ensures) (c.loop-i.invariant.1 ns h) (c.in_ok-vec.ensures.items_if_clones_equal (λ y e. e)),
)

pub returns : goal.returns
returns c = (
  omega (arith, c.loop-i.invariant.0, c.loop-i.auto.i-end, c.loop-i-test.false),
  λ ns h. record {
    elements = c.loop-i.invariant.1 ns h ∙ arrays_all ns c.loop-i.i (omega (arith, h.count_is, c.loop-i.auto.i-end, c.loop-i-test.false));
    count_is = omega (arith, h.count_is, c.loop-i.invariant.0, c.loop-i.auto.i-end, c.loop-i-test.false);
  },
)
