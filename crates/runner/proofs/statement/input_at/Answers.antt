use Rattle.std.proofs.Common.{◌≡◌, ◌+◌, arith}
use Rattle.runner.proofs.Words.{eight_inside, word_is}
use Rattle.runner.proofs.Statements.{input_runs}
use Rattle.runner.proofs.statement.input_at.Goals as goal

pub returns : goal.returns
returns c p a b h =
    let inside = eight_inside _ _ b h.high in
    let one : c.saturating_add.result ≡ c.args.pos + 1 = omega (arith, inside, c.saturating_add.ensures) in
    let two : c.saturating_add-2.result ≡ c.args.pos + 1 + 8 = omega (arith, inside, c.saturating_add-2.ensures) in
    record {
      is = input_runs _ _ p c.byte_at.result _ _ a _ b _ c.byte_at.ensures
          (word_is _ _ a h.low (omega (arith, h.low_small)) _ _ one c.word_at-low.ensures)
          (word_is _ _ b h.high (omega (arith, h.high_small)) _ _ two c.word_at-high.ensures) c.input.ensures;
      end = omega (arith, inside, c.saturating_add-3.ensures);
    }
