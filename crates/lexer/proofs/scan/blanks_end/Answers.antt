use Rattle.std.proofs.Common.{◌∙◌, arith, rules}
use Rattle.lexer.specs.Lexing.{white}
use Rattle.lexer.proofs.Blanks.{in_line, white_run, white_stops, comment_run, comment_some}
use Rattle.lexer.proofs.scan.blanks_end.Goals as goal

pub loop-at-init : goal.loop-at-init
loop-at-init c =
    let e = c.run_end-at.ensures.is white (λ b r h. search rules) in
    record {
      within = c.run_end-at.ensures.within;
      same = white_run c.args.bytes.now c.args.from c.run_end-at.result e;
      stops = white_stops c.args.bytes.now c.args.from c.run_end-at.result e;
    }

pub loop-at-smaller : goal.loop-at-smaller
loop-at-smaller c =
    let l = c.run_end-line.ensures.is in_line (λ b r h. search rules) in
    let s = comment_some c.args.bytes.now c.loop-at.at c.run_end-line.result c.loop-at-test.true c.if-bytes-at-eq35.true l in
    let e = c.run_end-at-in-loop-at.ensures.is white (λ b r h. search rules) in
    omega arith

pub loop-at-preserved : goal.loop-at-preserved
loop-at-preserved c =
    let l = c.run_end-line.ensures.is in_line (λ b r h. search rules) in
    let e = c.run_end-at-in-loop-at.ensures.is white (λ b r h. search rules) in
    record {
      within = c.run_end-at-in-loop-at.ensures.within;
      same = white_run c.args.bytes.now c.run_end-line.result c.run_end-at-in-loop-at.result e ∙ comment_run c.args.bytes.now c.loop-at.at c.run_end-line.result c.loop-at-test.true c.if-bytes-at-eq35.true l ∙ c.loop-at.invariant.same;
      stops = white_stops c.args.bytes.now c.run_end-line.result c.run_end-at-in-loop-at.result e;
    }
