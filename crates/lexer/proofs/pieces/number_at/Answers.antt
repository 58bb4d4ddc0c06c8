use Rattle.std.proofs.Common.{◌≡◌, ◌+◌, ◌-◌, drop, sym, ◌∙◌, arith, rules}
use Rattle.lexer.specs.Lexing.{digit, run}
use Rattle.lexer.proofs.Runs.{digit_ascii, run_begins, run_ends, run_past, DigitsRead, number_read, number_fits}
use Rattle.lexer.proofs.pieces.number_at.Goals as goal
use Rattle.lexer.proofs.pieces.number_at.Goals.{After-run_end-end, After-parse}

-- where the number ends, in the text
ends : (c : After-run_end-end) → c.run_end-end.result ≡ c.args.at + run digit (drop c.args.at c.args.text.now)
ends c = rw (← c.as_bytes.ensures.value) (c.run_end-end.ensures.is digit (λ b r h. search rules))

pub range-requires : goal.range-requires
range-requires c =
    let e = ends (goal.at.range-requires c).After-run_end-end in
    let s = run_past digit c.args.text.now c.args.at c.run_end-end.result c.requires.0 c.requires.1 e in
    record {
      start_le_end = omega arith;
      start_boundary = λ _. run_begins digit digit_ascii c.args.text.now c.args.at c.requires.0 c.requires.1;
      end_boundary = run_ends digit digit_ascii c.args.text.now c.args.at c.run_end-end.result c.utf8.text c.requires.0 c.requires.1 e (omega (arith, c.as_bytes.ensures.len, c.run_end-end.ensures.within));
    }

-- what was read of the digits
read : (c : After-parse) → c.run_end-end.result ≡ c.args.at + run digit (drop c.args.at c.args.text.now) → DigitsRead 32 c.args.text.now c.args.at c.run_end-end.result c.parse.result
read c e =
    let s = run_past digit c.args.text.now c.args.at c.run_end-end.result c.requires.0 c.requires.1 e in
    number_read 32 c.args.text.now c.range.result.now c.args.at c.run_end-end.result c.parse.result (omega arith) s e c.range.ensures.value c.parse.ensures.value.0

pub returns-in-Ok-clause-is : goal.returns-in-Ok-clause-is
returns-in-Ok-clause-is c =
    let steps = goal.at.returns-in-Ok-clause-is c in
    let r = rw c.in-Ok.is at (read steps.After-parse (ends steps.After-run_end-end)) in
    rw c.from.ensures (sym (number_fits c.in-Ok.n (c.run_end-end.result - c.args.at) (omega (arith, r.0))) ∙ r.1)

pub returns-in-Err-clause-is : goal.returns-in-Err-clause-is
returns-in-Err-clause-is c =
    let steps = goal.at.returns-in-Err-clause-is c in
    rw c.in-Err.is at (read steps.After-parse (ends steps.After-run_end-end))
