use Rattle.std.proofs.Common.{◌≡◌, ◌+◌, drop, Some, None, arith, rules, slice_index}
use Rattle.lexer.specs.Lexing.{word_byte, run}
use Rattle.lexer.proofs.Runs.{letter_word, word_ascii, run_begins, run_ends, run_past, word_first}
use Rattle.lexer.proofs.pieces.word_at.Goals as goal
use Rattle.lexer.proofs.pieces.word_at.Goals.{After-run_end-end}

-- where the word ends, in the text
ends : (c : After-run_end-end) → c.run_end-end.result ≡ c.args.at + run word_byte (drop c.args.at c.args.text.now)
ends c = rw (← c.as_bytes.ensures.value) (c.run_end-end.ensures.is word_byte (λ b r h. search rules))

pub range-word-requires : goal.range-word-requires
range-word-requires c =
    let e = ends (goal.at.range-word-requires c).After-run_end-end in
    let w = letter_word (slice_index c.args.text.now c.args.at) c.requires.1 in
    let s = run_past word_byte c.args.text.now c.args.at c.run_end-end.result c.requires.0 w e in
    record {
      start_le_end = omega arith;
      start_boundary = λ _. run_begins word_byte word_ascii c.args.text.now c.args.at c.requires.0 w;
      end_boundary = run_ends word_byte word_ascii c.args.text.now c.args.at c.run_end-end.result c.utf8.text c.requires.0 w e (omega (arith, c.as_bytes.ensures.len, c.run_end-end.ensures.within));
    }

pub returns-in-Some : goal.returns-in-Some
returns-in-Some c =
    let e = ends (goal.at.returns-in-Some c).After-run_end-end in
    let s = run_past word_byte c.args.text.now c.args.at c.run_end-end.result c.requires.0 (letter_word (slice_index c.args.text.now c.args.at) c.requires.1) e in
    record {
      is = word_first c.args.text.now c.range-word.result.now c.args.at c.run_end-end.result (Some c.in-Some.key) e c.range-word.ensures.value c.in-Some.ensures;
      ends = (s, omega (arith, c.as_bytes.ensures.len, c.run_end-end.ensures.within), tt);
    }

pub returns-in-None : goal.returns-in-None
returns-in-None c =
    let e = ends (goal.at.returns-in-None c).After-run_end-end in
    let s = run_past word_byte c.args.text.now c.args.at c.run_end-end.result c.requires.0 (letter_word (slice_index c.args.text.now c.args.at) c.requires.1) e in
    record {
      is = word_first c.args.text.now c.range-word.result.now c.args.at c.run_end-end.result None e c.range-word.ensures.value c.in-None.ensures;
      ends = (s, omega (arith, c.as_bytes.ensures.len, c.run_end-end.ensures.within), tt);
    }
