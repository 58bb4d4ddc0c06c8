use Rattle.std.proofs.Common.{arith}
use Rattle.runner.proofs.Loading.{first_is, few_arrays, count_is}
use Rattle.runner.proofs.start.array_count.Goals as goal

pub returns-then-byte_at-ne-LOAD : goal.returns-then-byte_at-ne-LOAD
returns-then-byte_at-ne-LOAD c p h =
    omega (arith, c.then-byte_at-ne-LOAD.either, first_is _ p h, few_arrays _ p h, count_is _ p h _ c.word_at-count.ensures, c.byte_at.ensures)

pub returns : goal.returns
returns c = (omega arith, λ p h. count_is _ p h _ c.word_at-count.ensures)
